pub mod Reduction
pub mod Formulas
pub mod Lanes
pub mod Copying
pub mod Transforms
pub mod Groups
