pub mod Tests
pub mod Kept
