pub mod Frames
pub mod Records
pub mod Slots
pub mod Migrating
pub mod Opening
pub mod Examples
