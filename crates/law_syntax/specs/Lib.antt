pub mod Placed
pub mod Grammatical
pub mod Events
