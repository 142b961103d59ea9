pub mod Tally
pub mod Bank
