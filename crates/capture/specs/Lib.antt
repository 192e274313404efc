pub mod Capture
pub mod Runs
