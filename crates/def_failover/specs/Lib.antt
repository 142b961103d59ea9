pub mod Orders
pub mod Telling
pub mod Promises
