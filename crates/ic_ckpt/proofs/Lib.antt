pub mod Loops
pub mod Wholes
pub mod Fitting
pub mod Spelling
