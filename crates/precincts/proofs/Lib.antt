pub mod Multiples
pub mod Ways
pub mod Listed
