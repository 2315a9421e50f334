pub mod Places
pub mod Precincts
pub mod Asked
pub mod Laws
pub mod Worked
