pub mod Rows
pub mod WholeParts
pub mod PartValues
pub mod Applied
pub mod RoundTrip
