-- The laws that everything above cites: primes, residues, values, real values, accumulators.
pub mod Primes
pub mod Residues
pub mod Values
pub mod Parts
pub mod RealValues
pub mod Accumulators
pub mod ModulusCases
pub mod Quotients
