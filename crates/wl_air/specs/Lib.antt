pub mod Air
pub mod Lending
pub mod World
pub mod Acting
pub mod Listening
pub mod Playing
