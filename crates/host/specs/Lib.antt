pub mod Request
pub mod Reply
pub mod Examples
