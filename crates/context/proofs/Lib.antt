pub mod Answers
pub mod Known
pub mod PairLaws
pub mod SectionLaws
pub mod Whole
pub mod FindLaws
