pub mod Codes
pub mod Walk
