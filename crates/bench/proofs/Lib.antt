-- Laws of many calls on one block.
pub mod Adding
pub mod Results
