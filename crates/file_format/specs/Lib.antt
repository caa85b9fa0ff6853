pub mod Format
pub mod Places
pub mod Walk
pub mod Layout
pub mod Parsed
pub mod Orders
