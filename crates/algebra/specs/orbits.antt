pub mod Orbit
pub mod OrbitLaws
