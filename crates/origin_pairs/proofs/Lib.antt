pub mod Joined
pub mod Members
pub mod Orders
pub mod Seen
pub mod Sets
