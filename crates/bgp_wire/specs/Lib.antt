pub mod Frames
pub mod Header
pub mod Lengths
pub mod States
