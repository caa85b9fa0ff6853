pub mod Header
pub mod Cells
