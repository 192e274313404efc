pub mod Bits
pub mod Setup
pub mod Reading
pub mod Member
pub mod Writing
pub mod Accepted
pub mod Claims
pub mod Examples
