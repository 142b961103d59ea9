pub mod Lanes
pub mod Steps
pub mod Threads
pub mod Premises
pub mod Serial
