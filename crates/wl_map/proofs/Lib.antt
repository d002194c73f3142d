pub mod Sets
pub mod Keeping
