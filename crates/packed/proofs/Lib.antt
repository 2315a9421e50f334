pub mod Packets
pub mod Segments
