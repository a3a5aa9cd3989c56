-- Laws of the test's loops, and of its parts together.
pub mod Seeing
pub mod Deciding
pub mod Results
pub mod Linked
