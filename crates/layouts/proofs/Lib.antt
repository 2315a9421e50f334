pub mod Exits
pub mod Tables
pub mod Times
pub mod Laws
