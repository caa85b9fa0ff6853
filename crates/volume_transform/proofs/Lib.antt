pub mod GroupTurns
pub mod PlainGroups
pub mod RowParts
pub mod FoldedTurns
pub mod Turning
pub mod Ready
pub mod OwnTurns
pub mod Rising
