pub mod Loops
pub mod Fronts
pub mod Placing
pub mod Ranges
pub mod Counted
