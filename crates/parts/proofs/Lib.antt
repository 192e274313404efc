pub mod Walk
pub mod Reader
