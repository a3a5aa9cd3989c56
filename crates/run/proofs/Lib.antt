-- What is proved of a run, beside its functions.
pub mod Steps
pub mod Laid
pub mod Planning
pub mod Along
pub mod Turns
pub mod Output
pub mod Results
pub mod Former
