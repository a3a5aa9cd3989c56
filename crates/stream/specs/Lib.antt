-- What the contracts of `stream` cite beside the rules.
pub mod Answer
pub mod Load
