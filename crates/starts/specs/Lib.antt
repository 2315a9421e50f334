pub mod At
pub mod Starts
