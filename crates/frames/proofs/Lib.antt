pub mod Known
pub mod FrameLaws
pub mod Answers
pub mod Walk
pub mod Places
pub mod Whole
