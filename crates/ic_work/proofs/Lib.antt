pub mod Sizes
pub mod Works
pub mod Receiving
pub mod Rests
