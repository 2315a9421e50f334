pub mod Coding
pub mod Places
pub mod Sections
pub mod Styles
