-- What the contracts of `kernel` cite beside the rules, and the demands of the block. Demands comes first for a reader.
pub mod Demands
pub mod Block
pub mod Answers
pub mod Tests
pub mod Calls
pub mod Start
pub mod Asks
