-- What the contracts of `ready` cite beside the rules.
pub mod Keep
pub mod Promote
