pub mod Openings
pub mod Walking
pub mod Judging
pub mod Lengths
pub mod RecordOrder
pub mod Measuring
pub mod Orders
pub mod HeadersRead
