pub mod Inheritance
pub mod Rows
pub mod StepSizes
