pub mod Filling
pub mod Framings
pub mod Headers
