pub mod Letters
pub mod Loops
pub mod Ones
pub mod Failures
pub mod Writes
