pub mod Tables
pub mod Vrps
pub mod Lines
pub mod Objects
pub mod Irr
pub mod Steps
