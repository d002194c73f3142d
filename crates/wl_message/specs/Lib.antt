pub mod Message
pub mod Codec
