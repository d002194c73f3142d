pub mod Parts
pub mod Lending
pub mod Ending
pub mod Putting
pub mod Peeking
pub mod Listening
pub mod Reacting
