pub mod Tidy
pub mod Steps
pub mod Enclosed
pub mod Runs
pub mod Numbers
pub mod Entries
pub mod Operations
