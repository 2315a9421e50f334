pub mod Part
pub mod Ends
pub mod Laws
