pub mod Rows
pub mod Lines
pub mod Named
pub mod Lawful
pub mod Moves
