pub mod Prime
pub mod Shape
pub mod Transform
