pub mod Hearing
pub mod Lasts
pub mod Windows
pub mod Bounds
pub mod Worlds
pub mod Doing
pub mod Plays
