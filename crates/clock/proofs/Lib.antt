-- Laws of the clock's answer.
pub mod Answers
pub mod Linked
