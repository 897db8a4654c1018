pub mod VersionLaws
pub mod SuiteLaws
pub mod LeadLaws
pub mod Ends
