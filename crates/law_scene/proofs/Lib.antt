pub mod Texts
pub mod Files
pub mod Steps
pub mod Whole
pub mod Ends
pub mod Bank
mod Numbers
