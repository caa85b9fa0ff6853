pub mod File
pub mod Marks
pub mod Steps
pub mod Answers
pub mod RecordOrder
pub mod Measured
pub mod Orders
pub mod HeaderRead
