pub mod Capabilities
pub mod Fields
pub mod Openings
