pub mod Ttlm
pub mod Reading
pub mod Mapping
