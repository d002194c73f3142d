pub mod Joining
pub mod Written
pub mod Reading
