pub mod Maps
pub mod Again
pub mod Spelled
pub mod Answered
