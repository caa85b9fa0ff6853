-- The definitions: the words they are written in, rings and the transform, lines and their kinds, orbits and cells.
pub mod Prelude
pub mod ring
pub mod fourier
pub mod lines
pub mod orbits
pub mod cells
