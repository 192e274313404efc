pub mod Salvage
pub mod Walk
pub mod Claims
pub mod Exact
