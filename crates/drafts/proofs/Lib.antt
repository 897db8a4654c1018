pub mod Answers
pub mod Walk
pub mod Found
pub mod KeyAdded
pub mod Closing
pub mod TakenOut
pub mod Behind
