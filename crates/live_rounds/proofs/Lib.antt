pub mod Judging
pub mod Working
pub mod Writing
pub mod Joining
pub mod Ending
