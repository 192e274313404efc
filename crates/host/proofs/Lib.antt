pub mod Request
pub mod Building
pub mod Reply
pub mod Examples
pub mod Asked
