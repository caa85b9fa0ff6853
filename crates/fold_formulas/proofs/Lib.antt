pub mod Frames
pub mod ShortTransform
