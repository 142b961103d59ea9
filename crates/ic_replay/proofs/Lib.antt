pub mod Sending
pub mod Entering
pub mod Recording
pub mod ImageLimits
pub mod Checkpoints
pub mod Refusing
pub mod Runs
pub mod Turns
