-- What the contracts of `text` cite beside the rules.
pub mod Room
pub mod Writes
