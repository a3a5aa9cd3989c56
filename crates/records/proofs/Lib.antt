-- Laws of records.
pub mod Marks
pub mod Results
