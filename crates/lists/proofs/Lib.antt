-- Laws of lists stored as links.
pub mod Few
pub mod Links
pub mod Storage
pub mod Walks
pub mod Determined
pub mod Operations
pub mod Lowest
pub mod LowestLevel
pub mod Rests
pub mod Passes
pub mod Apart
pub mod Together
pub mod Marks
pub mod Results
pub mod Linked
