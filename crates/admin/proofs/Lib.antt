pub mod Concluded
pub mod OfSound
pub mod OfRequest
pub mod Arms
pub mod Respond
pub mod Marks
