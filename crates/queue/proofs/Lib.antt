-- Laws of those who run and wait.
pub mod Dates
pub mod Rows
pub mod Linked
