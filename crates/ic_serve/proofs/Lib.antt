pub mod Gathered
pub mod Settled
pub mod Handed
pub mod Called
pub mod Stretches
mod Renewing
pub mod Lines
pub mod Results
pub mod Asking
pub mod Checkpoints
pub mod Rounds
pub mod Sound
pub mod Stopping
pub mod Completing
