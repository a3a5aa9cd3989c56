-- Laws of the doors for other languages.
pub mod Typed
pub mod Doors
pub mod Plans
pub mod Results
