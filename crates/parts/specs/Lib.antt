pub mod List
pub mod Step
pub mod Reader
