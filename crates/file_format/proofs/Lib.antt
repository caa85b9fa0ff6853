pub mod Reading
pub mod Walking
pub mod Parsing
pub mod Rewriting
pub mod WrittenFiles
