pub mod Lanes
pub mod Kept
pub mod Networks
pub mod Showings
