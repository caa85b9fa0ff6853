pub mod Spelling
pub mod Places
pub mod Walks
pub mod RecordLaws
