pub mod Tests
pub mod Outcome
pub mod Points
pub mod Orders
