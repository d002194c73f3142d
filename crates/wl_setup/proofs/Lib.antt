pub mod Tables
pub mod Sets
pub mod Requests
pub mod Replies
pub mod Grants
