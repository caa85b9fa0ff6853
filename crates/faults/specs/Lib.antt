pub mod Faults
pub mod FaultSteps
pub mod Fewest
pub mod FewestOpened
pub mod Others
