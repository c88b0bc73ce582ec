pub mod Parts
pub mod Rows
pub mod Stations
pub mod Rounds
pub mod Seats
