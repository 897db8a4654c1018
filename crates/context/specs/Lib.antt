pub mod Codes
pub mod Reading
pub mod Stepping
