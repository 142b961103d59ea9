pub mod Measure
pub mod Represented
pub mod Quiet
pub mod Mutual
pub mod Done
pub mod Ends
pub mod Kept
