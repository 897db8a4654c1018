pub mod Answers
pub mod ReadLaws
pub mod EndLaws
pub mod Stood
pub mod StoreLaws
pub mod EntryWritten
pub mod BufferLaws
pub mod Exits
