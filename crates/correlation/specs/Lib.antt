pub mod Correlation
pub mod Steps
pub mod Answers
pub mod Demands
pub mod Orders
