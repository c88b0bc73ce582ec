pub mod Rows
pub mod Answers
pub mod Rounds
pub mod Reading
