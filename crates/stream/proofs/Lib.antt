pub mod Totals
pub mod Rest
pub mod Takes
pub mod Feeding
pub mod Ends
pub mod Example
