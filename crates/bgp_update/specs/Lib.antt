pub mod Faults
pub mod Layout
pub mod Update
pub mod View
