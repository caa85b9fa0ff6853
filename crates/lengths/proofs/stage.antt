pub mod Divisors
pub mod Factoring
pub mod Listing
pub mod Staging
pub mod Doubling
