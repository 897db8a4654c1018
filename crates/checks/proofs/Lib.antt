pub mod Stages
pub mod Items
pub mod Loops
pub mod Parts
pub mod SectionChecks
pub mod Writers
pub mod SeenLaws
