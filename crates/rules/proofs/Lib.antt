pub mod Seen
pub mod PartCauses
pub mod Causes
pub mod Accepted
