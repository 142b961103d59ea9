pub mod Placed
pub mod Gives
pub mod Parts
