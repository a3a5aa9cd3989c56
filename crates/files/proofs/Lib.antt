-- What is proved of reading and printing, beside their functions.
pub mod Inputs
pub mod Letters
