pub mod Job
pub mod Plans
pub mod Answers
pub mod TestSteps
pub mod PowerKept
pub mod Turns
pub mod Orders
