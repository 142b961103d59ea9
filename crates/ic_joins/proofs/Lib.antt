pub mod Started
pub mod Placed
pub mod Shown
pub mod Assembled
pub mod Joined
