pub mod MrtEvents
pub mod MrtFeeds
pub mod Openings
pub mod Places
pub mod Records
pub mod Words
