pub mod Octets
pub mod Records
pub mod Answering
pub mod Passing
