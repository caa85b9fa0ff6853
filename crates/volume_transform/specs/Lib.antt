pub mod Axes
pub mod Lines
pub mod Plans
pub mod Groups
pub mod Turns
pub mod RisingPlaces
pub mod AxisSums
