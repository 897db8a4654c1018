pub mod Answers
pub mod Table
pub mod Each
pub mod Seen
