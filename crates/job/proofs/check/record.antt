pub mod Reflections
