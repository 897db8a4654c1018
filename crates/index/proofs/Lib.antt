pub mod Halving
pub mod Grown
pub mod Sorted
pub mod Copying
