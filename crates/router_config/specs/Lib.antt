pub mod Configured
pub mod Documents
pub mod Edits
pub mod Kinds
pub mod Names
pub mod Rules
pub mod Settings
