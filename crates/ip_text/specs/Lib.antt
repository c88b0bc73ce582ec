pub mod Groups
pub mod Numbers
pub mod Prefixes
pub mod Sides
pub mod Texts
