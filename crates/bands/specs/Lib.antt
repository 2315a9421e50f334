pub mod SubBands
pub mod Asked
pub mod Laws
pub mod Worked
