pub mod Heads
pub mod Progresses
pub mod Records
pub mod Runs
pub mod Cuts
