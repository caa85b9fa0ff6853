pub mod Axis
pub mod Halves
pub mod Split
