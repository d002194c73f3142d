pub mod NumberObject
pub mod OrderRule
pub mod Bookings
pub mod Places
