pub mod Main
pub mod Passing
pub mod Laws
