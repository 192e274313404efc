pub mod Stream
pub mod Totals
pub mod Progress
pub mod Steps
