pub mod Headers
pub mod Digits
