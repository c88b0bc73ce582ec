pub mod Front
pub mod Nlri
