pub mod Value
pub mod Unreduced
pub mod Bounds
pub mod Division
