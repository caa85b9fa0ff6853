pub mod Window
pub mod FirstBest
pub mod Blocks
pub mod Answers
pub mod Orders
