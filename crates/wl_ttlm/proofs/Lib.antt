pub mod Maps
pub mod Mappings
pub mod Fields
pub mod Once
pub mod Writing
