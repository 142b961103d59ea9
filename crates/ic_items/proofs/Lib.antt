pub mod Latest
pub mod Lists
pub mod Limits
pub mod Tables
pub mod Twice
pub mod New
