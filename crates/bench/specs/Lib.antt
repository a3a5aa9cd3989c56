-- What the contracts of `bench` cite beside the rules.
pub mod Sums
