pub mod Scores
pub mod FirstBest
pub mod Outcome
pub mod EachWindow
pub mod Blocks
pub mod Orders
