pub mod Numbers
pub mod Openings
pub mod Points
