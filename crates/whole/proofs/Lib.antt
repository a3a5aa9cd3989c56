-- Laws of the test's parts.
pub mod Dates
pub mod Reading
pub mod Queueing
pub mod Wholeness
pub mod Linked
