-- Laws of a block as bytes.
pub mod Putting
pub mod Taking
pub mod Numbers
pub mod Standing
pub mod Kept
