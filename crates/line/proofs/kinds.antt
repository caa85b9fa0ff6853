pub mod Axes
pub mod Transforms
pub mod Reading
pub mod Dispatch
pub mod Tables
pub mod Work
