pub mod Known
pub mod Action
pub mod Reading
pub mod Writing
