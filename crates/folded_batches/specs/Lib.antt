pub mod Mixing
pub mod FoldedGroups
pub mod Rows
pub mod RowLanes
pub mod HermitianLanes
pub mod AlternatingLanes
pub mod MirrorLanes
