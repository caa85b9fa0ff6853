pub mod Stored
pub mod Taking
