pub mod Fields
pub mod Layout
pub mod MultiLink
pub mod Reading
pub mod Writing
