pub mod Stepped
pub mod Joins
