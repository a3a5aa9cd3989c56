-- Laws of the jobs that are kept.
pub mod Keeping
pub mod Linked
