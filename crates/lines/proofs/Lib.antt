-- Laws of the runner's lines.
pub mod Points
pub mod Showing
