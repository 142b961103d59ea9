pub mod Works
pub mod Standings
pub mod Choices
pub mod Progresses
pub mod Doing
pub mod Telling
