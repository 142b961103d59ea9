pub mod Index
pub mod Views
pub mod Runs
