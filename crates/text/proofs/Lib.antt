-- Laws of numbers as text.
pub mod Writes
pub mod Decimal
