pub mod Splitting
pub mod Equation3
pub mod Stepping
pub mod Driving
pub mod EverySplit
