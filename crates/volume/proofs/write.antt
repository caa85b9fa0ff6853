pub mod WrittenFactors
