pub mod Cuts
pub mod Sayings
pub mod Books
pub mod BookLaws
pub mod Outcomes
pub mod Faults
pub mod Named
