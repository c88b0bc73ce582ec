pub mod Agreement
pub mod Items
pub mod Seconds
pub mod Table
