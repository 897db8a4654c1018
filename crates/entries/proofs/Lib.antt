pub mod Answers
pub mod Items
pub mod Walk
pub mod Fills
pub mod Tables
pub mod Sections
