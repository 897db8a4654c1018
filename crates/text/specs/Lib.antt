pub mod Text
pub mod Numerals
pub mod Put
pub mod Items
pub mod Facts
