pub mod Printing
pub mod Outcomes
pub mod Refusals
