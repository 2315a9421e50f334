pub mod Kinds
pub mod Standing
pub mod Grammar
pub mod Laws
