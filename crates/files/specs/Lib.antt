-- What the contracts of `files` cite beside the rules.
pub mod Ends
