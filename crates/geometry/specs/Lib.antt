pub mod TileGrid
pub mod Tiles
pub mod Components
pub mod Worked
