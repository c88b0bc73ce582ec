pub mod Ascending
pub mod Blank
pub mod Configured
pub mod Found
pub mod Views
pub mod Walk
