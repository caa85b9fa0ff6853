pub mod TurnLaws
pub mod RowLaws
pub mod StoredLaws
