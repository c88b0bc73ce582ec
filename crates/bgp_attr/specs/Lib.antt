pub mod Attribute
pub mod Faults
pub mod Front
pub mod Slots
pub mod Table
pub mod Told
