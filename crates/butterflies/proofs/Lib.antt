pub mod Equation3
pub mod OuterSums
pub mod Given
pub mod Cases
pub mod Butterflies
