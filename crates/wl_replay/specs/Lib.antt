pub mod Keys
pub mod Replay
