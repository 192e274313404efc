pub mod PartLaws
pub mod CallLaws
pub mod SummaryLaws
pub mod SetupLaws
