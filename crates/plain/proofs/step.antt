pub mod Sizes
pub mod Passes
pub mod Passing
