pub mod Refusals
pub mod Places
pub mod SetLaws
pub mod Returns
pub mod Cut
pub mod SetsParts
pub mod Kept
pub mod PartsSet
