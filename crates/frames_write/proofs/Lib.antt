pub mod Lengths
pub mod Contents
pub mod Stores
pub mod Putting
