-- When a block is whole, and what each part of the test tells.
pub mod Whole
pub mod Parts
