pub mod Kept
pub mod BlockLaws
pub mod BandBlocks
pub mod Cover
pub mod Numbered
