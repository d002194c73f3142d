pub mod NonInheritance
pub mod Identity
pub mod Inheritance
pub mod Marks
pub mod Shrunk
