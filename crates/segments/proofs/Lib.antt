pub mod Components
pub mod Sizes
