pub mod Torn
pub mod Runs
