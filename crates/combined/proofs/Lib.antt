pub mod Remainders
pub mod Tables
pub mod PackedMaps
pub mod CombinedMaps
pub mod Readings
