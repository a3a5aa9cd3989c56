-- What the contracts of `run` cite beside the rules.
pub mod Run
