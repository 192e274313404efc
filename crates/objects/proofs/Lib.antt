pub mod Objects
pub mod Counts
pub mod Arrays
