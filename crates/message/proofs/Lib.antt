pub mod Decoded
pub mod Asked
pub mod Responded
pub mod Acted
pub mod Whole
pub mod Cases
