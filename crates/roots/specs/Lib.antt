pub mod Root
pub mod TableLaws
pub mod Table
