pub mod ByteLaws
pub mod Digits
pub mod FileParts
pub mod Heads
