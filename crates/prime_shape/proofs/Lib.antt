pub mod TrialDivision
pub mod Inverses
pub mod Orders
pub mod Shapes
pub mod Packed
pub mod Lines
