pub mod Counting
pub mod Serial
pub mod Outputs
pub mod Joined
pub mod Ending
pub mod Runs
pub mod Completing
pub mod Concluding
