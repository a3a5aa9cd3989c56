-- What the contracts of `lists` cite beside the rules.
pub mod Links
pub mod Answers
pub mod Held
pub mod Marks
