pub mod MarkLaws
pub mod TotalLaws
pub mod PutLaws
pub mod Whole
