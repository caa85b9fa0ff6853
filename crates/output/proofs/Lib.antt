pub mod Decimals
pub mod BigEndian
pub mod LittleEndian
pub mod Writing
pub mod Digits
pub mod Numerals
pub mod Answered
pub mod Each
