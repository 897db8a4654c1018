pub mod Known
pub mod SectionLaws
pub mod Whole
