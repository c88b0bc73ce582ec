pub mod Beginning
pub mod Handing
pub mod Running
