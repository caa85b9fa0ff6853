pub mod FaultLaws
pub mod FaultWalks
pub mod FewestFaults
pub mod FewestOpenings
pub mod OtherFiles
