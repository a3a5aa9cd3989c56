-- What the contracts of `jobs` cite beside the rules.
pub mod Kept
