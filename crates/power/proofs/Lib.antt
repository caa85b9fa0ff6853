pub mod MapPower
pub mod FactorPower
pub mod PowerLaws
pub mod PowerKept
pub mod PowerReal
