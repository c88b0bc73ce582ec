pub mod Captures
pub mod Formats
pub mod Frames
pub mod Given
pub mod Reading
pub mod Spelling
pub mod Words
