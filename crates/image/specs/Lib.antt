-- What the contracts of `image` cite beside the rules.
pub mod Bytes
