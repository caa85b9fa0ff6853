pub mod Chinese
pub mod CombinedMap
pub mod Reading
pub mod Answers
