pub mod AtFirst
pub mod Hired
