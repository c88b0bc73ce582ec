pub mod Beside
pub mod Built
pub mod Kept
pub mod Keys
pub mod Mapped
pub mod Order
