pub mod Numbered
pub mod Told
pub mod SetupTold
