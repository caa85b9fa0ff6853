pub mod Orbits
pub mod OrbitLists
pub mod OrbitOrder
pub mod OrbitStore
pub mod OrbitWriter
