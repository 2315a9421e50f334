pub mod Components
pub mod Settled
