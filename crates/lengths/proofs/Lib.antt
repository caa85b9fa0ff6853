pub mod Factors
pub mod Digits
pub mod Divisors
pub mod Counts
pub mod Scratch
pub mod AdmittedLengths
