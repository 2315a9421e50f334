pub mod Founds
pub mod Onwards
pub mod Once
pub mod Paths
