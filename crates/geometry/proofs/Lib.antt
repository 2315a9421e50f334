pub mod TileLaws
