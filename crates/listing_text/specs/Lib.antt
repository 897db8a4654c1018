pub mod Listing
pub mod Examples
pub mod Answers
pub mod Bound
pub mod Header
