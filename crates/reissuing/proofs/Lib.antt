pub mod Found
pub mod Added
pub mod Tested
pub mod Stores
pub mod Answers
