pub mod Gates
pub mod Refusals
pub mod Reading
pub mod Slots
