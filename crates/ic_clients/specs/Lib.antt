pub mod Moments
pub mod Working
pub mod Worlds
pub mod Runs
pub mod Completing
