pub mod Stages
pub mod MeasureLaws
pub mod Parts
