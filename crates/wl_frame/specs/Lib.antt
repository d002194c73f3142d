pub mod Frame
pub mod Refusals
pub mod Reading
pub mod Aad
pub mod Padding
pub mod Nonce
pub mod Sealing
pub mod StandIn
