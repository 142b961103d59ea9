pub mod Views
pub mod Acting
pub mod Stepping
pub mod Opening
pub mod Executing
