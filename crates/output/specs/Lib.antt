pub mod Output
pub mod Written
pub mod Answers
pub mod Numerals
