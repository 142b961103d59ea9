pub mod Room
pub mod Entries
pub mod Rows
pub mod Alone
