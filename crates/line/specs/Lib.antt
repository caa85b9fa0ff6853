pub mod Line
pub mod Demands
pub mod Specimens
pub mod Tables
pub mod Answers
pub mod EverySplit
pub mod Orders
