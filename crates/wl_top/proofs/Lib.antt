pub mod Simulations
pub mod Endings
pub mod OneRun
pub mod OneEnding
pub mod Faults
