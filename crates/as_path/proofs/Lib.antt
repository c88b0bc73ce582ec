pub mod HopLaws
pub mod NumberLaws
pub mod PathLaws
