pub mod Said
pub mod Outputs
pub mod Ends
pub mod Devices
pub mod Migrated
