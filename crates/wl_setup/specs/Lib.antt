pub mod Table
pub mod Status
pub mod Messages
pub mod Station
pub mod Ap
