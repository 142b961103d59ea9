pub mod Placing
pub mod Showing
pub mod Assembling
pub mod Threads
