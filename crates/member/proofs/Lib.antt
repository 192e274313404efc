pub mod Record
pub mod Sound
pub mod Objects
pub mod Live
