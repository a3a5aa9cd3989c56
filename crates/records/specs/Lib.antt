-- What the contracts of `records` cite beside the rules.
pub mod Read
pub mod Turns
