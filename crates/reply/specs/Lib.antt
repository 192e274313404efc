pub mod Result
pub mod Reply
