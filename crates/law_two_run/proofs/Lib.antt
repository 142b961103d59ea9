pub mod Again
pub mod Reading
pub mod Torn
pub mod Leading
pub mod Fitting
pub mod Adding
pub mod Executing
pub mod Meeting
