pub mod Format
pub mod Access
pub mod Message
