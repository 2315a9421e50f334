pub mod Arrangement
pub mod Placement
pub mod Progress
