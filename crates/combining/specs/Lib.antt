pub mod Combining
pub mod Answers
pub mod Points
pub mod Orders
