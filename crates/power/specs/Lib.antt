pub mod Power
pub mod PowerSteps
