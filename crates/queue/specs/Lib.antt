-- What the contracts of `queue` cite beside the rules.
pub mod Asked
pub mod Row
