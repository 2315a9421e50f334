pub mod Siz
