pub mod Front
pub mod Hops
pub mod Path
