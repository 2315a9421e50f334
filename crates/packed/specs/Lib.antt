pub mod Ppm
pub mod Ppt
pub mod Segment
pub mod Sot
