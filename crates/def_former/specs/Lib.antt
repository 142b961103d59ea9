pub mod Frame
pub mod Log
pub mod Migrated
pub mod Opening
pub mod Laws
