pub mod Cell
pub mod CellSteps
pub mod StoredTests
pub mod CellPack
pub mod CellPlaces
pub mod CellOrder
