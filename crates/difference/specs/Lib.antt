pub mod Difference
pub mod Under
pub mod Handed
pub mod Claims
pub mod Calls
