pub mod Record
pub mod Objects
pub mod Member
pub mod Sound
