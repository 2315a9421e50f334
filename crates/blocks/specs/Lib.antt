pub mod CodeBlocks
pub mod Components
pub mod Asked
pub mod Worked
