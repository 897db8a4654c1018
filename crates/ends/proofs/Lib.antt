pub mod Tidy
pub mod SharedLaws
pub mod LeadLaws
pub mod OpeningLaws
pub mod ClosingLaws
