pub mod Telling
pub mod Up
pub mod Asked
pub mod Coming
pub mod Whole
pub mod Handed
