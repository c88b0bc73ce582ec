pub mod Begun
pub mod Hiring
