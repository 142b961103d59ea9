pub mod Rows
pub mod Worlds
pub mod States
