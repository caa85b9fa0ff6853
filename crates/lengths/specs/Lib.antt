pub mod Lengths
pub mod Admitted
pub mod Stages
