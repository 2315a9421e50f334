pub mod BandLaws
pub mod Powers
