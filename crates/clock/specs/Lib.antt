-- What the contracts of `clock` cite beside the rules.
pub mod Advance
