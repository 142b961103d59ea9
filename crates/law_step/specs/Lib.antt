pub mod Steps
pub mod Moments
pub mod Causes
pub mod Inputs
