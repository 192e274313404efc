pub mod Le
pub mod Loops
