pub mod Sound
pub mod OneCall
