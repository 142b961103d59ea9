pub mod Forced
pub mod Same
pub mod Stepped
pub mod Served
pub mod Recovered
pub mod Openings
pub mod Ends
pub mod Begun
