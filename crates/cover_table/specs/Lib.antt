pub mod Folds
pub mod Judging
pub mod NodeLists
pub mod Rows
pub mod Snapshots
pub mod Tables
pub mod Trees
