pub mod Packets
pub mod Steps
