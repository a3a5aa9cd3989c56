-- What the contracts of `export` cite beside the rules.
pub mod Door
