pub mod Buffer
pub mod Codes
pub mod EntryWritten
pub mod Reasons
pub mod Stored
