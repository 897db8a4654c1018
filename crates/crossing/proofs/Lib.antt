pub mod Numbers
pub mod RecordLaws
