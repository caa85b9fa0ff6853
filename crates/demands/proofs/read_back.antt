pub mod ReadBack
pub mod EqualFiles
pub mod EmptyFiles
