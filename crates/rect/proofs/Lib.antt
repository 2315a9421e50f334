pub mod Ceil
pub mod Weights
pub mod Places
