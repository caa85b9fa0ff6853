pub mod Checksum
pub mod Printed
pub mod Taken
