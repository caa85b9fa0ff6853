pub mod TestLaws
pub mod Reflections
