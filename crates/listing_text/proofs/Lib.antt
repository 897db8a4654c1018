pub mod SizeLaws
pub mod AnswerLaws
pub mod Tables
pub mod Joint
pub mod Bound
