pub mod Staging
pub mod SetSteps
pub mod Claims
