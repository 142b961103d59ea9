pub mod Saying
mod Digits
pub mod Outputs
pub mod MigratedLines
