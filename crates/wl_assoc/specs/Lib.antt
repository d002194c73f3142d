pub mod Association
pub mod Profiles
pub mod Reading
