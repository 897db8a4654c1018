pub mod Table
pub mod Puts
pub mod Frames
