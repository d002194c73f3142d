pub mod Places
pub mod Counting
pub mod Keeping
pub mod Booking
pub mod Writing
pub mod Finding
pub mod Releasing
pub mod Rising
