pub mod Opened
pub mod SmallEngines
