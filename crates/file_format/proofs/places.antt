pub mod Versions
pub mod Heads
