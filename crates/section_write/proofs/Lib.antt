pub mod Putting
pub mod Images
pub mod SectionLaws
