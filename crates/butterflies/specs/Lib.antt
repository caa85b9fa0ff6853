pub mod Equation3
pub mod Butterflies
