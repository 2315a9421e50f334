pub mod Applied
pub mod Rank
