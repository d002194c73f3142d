pub mod Pairs
pub mod Lists
pub mod Lanes
pub mod Rule
pub mod Drawing
