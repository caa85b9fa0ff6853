pub mod Folds
pub mod FoldKinds
pub mod Kinds
pub mod Packings
