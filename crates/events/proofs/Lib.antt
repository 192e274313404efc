pub mod WriteLaws
pub mod EventLaws
pub mod Cases
