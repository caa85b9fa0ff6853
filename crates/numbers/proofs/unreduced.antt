pub mod Unreduced
