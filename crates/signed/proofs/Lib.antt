pub mod Machine
pub mod Centred
pub mod Floor
pub mod IntegerRing
pub mod Numerals
pub mod Magnitudes
