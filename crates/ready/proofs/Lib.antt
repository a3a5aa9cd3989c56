-- Laws of promotion, entering and leaving.
pub mod Runners
pub mod Placing
pub mod Fronts
pub mod Draining
pub mod Promoting
pub mod Results
pub mod Linked
