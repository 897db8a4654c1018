pub mod Decimals
pub mod Puts
pub mod Going
pub mod Loops
pub mod LineLaws
pub mod Sizes
pub mod Hex
