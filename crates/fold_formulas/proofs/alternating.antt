pub mod Middles
