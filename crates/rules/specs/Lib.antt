pub mod Rules
pub mod PartCauses
