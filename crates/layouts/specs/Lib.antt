pub mod Indices
pub mod Layouts
pub mod Laws
