pub mod Rows
pub mod Indices
pub mod Headers
pub mod Ordered
