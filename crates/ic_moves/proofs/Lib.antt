pub mod Summing
pub mod Bounds
pub mod Entering
pub mod Openings
pub mod Verdicts
pub mod Ranges
pub mod Waiting
