pub mod Rows
pub mod Masks
pub mod Operations
