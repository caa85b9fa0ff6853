pub mod Numbered
pub mod JobTurns
pub mod AxisLines
pub mod Neighbours
