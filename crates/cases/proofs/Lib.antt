pub mod Calls
pub mod Answered
pub mod Mendings
pub mod Reissuings
pub mod Sizes
pub mod Occurs
