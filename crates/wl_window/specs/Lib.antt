pub mod Numbering
pub mod Numbers12
pub mod Originating
pub mod Placing
pub mod Queue
pub mod Reordering
