pub mod Find
pub mod Answers
