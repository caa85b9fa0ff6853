pub mod TestLaws
pub mod Interior
