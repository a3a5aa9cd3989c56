-- What the contracts of `lines` cite beside the rules.
pub mod Shown
pub mod Room
