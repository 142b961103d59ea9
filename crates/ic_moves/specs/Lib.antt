pub mod Cores
pub mod Chiefs
pub mod Networks
