pub mod Turns
pub mod PackedLines
pub mod Sweeps
pub mod PassLaws
pub mod Whole
pub mod AxisSums
