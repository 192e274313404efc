pub mod Sizes
pub mod Writes
pub mod Runs
