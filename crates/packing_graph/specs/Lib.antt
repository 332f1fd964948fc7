pub mod Sets
pub mod Reach
pub mod Laws
