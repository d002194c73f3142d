pub mod Simulated
pub mod Run
pub mod Settled
pub mod Status
