pub mod Taken
pub mod Starred
