pub mod Passes
pub mod Back
