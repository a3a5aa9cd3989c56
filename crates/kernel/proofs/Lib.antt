-- Laws of the block and its calls.
pub mod Views
pub mod Fifteen
pub mod Testing
pub mod Starting
pub mod Commits
pub mod Asking
pub mod Results
pub mod Demands
pub mod Returned
pub mod Linked
pub mod Answered
