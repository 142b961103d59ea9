pub mod Several
pub mod Talking
pub mod Indexing
