pub mod Handed
pub mod Tests
pub mod Orders
