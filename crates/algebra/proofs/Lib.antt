-- The theorems, from the ground up: rings, the transform, the folds of a line, cells and records. README.md maps them.
pub mod ring
pub mod fourier
pub mod lines
pub mod orbits
pub mod cells
