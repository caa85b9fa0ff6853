pub mod Specimen
pub mod Synthesised
pub mod Opened
pub mod Files
pub mod Fits
pub mod ReadText
pub mod Orders
