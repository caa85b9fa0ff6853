pub mod Replaying
pub mod Modelled
