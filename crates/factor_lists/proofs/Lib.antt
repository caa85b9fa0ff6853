pub mod Choosing
pub mod Fewest
