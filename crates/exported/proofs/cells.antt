pub mod Angles
