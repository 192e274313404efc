pub mod Plus
pub mod Lines
pub mod Walk
pub mod Captures
