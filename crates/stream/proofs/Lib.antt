-- Laws of the tests of a stream, and of its table.
pub mod Tests
pub mod Loading
pub mod Results
