pub mod FormLaws
pub mod BodyChecks
pub mod SectionStores
pub mod BodyStores
pub mod Sizes
