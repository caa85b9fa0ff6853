pub mod Demands
pub mod Written
pub mod Specimens
pub mod Grids
pub mod Shared
pub mod ModelPower
