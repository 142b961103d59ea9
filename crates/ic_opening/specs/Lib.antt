pub mod Phases
pub mod Disks
pub mod NewLogs
pub mod Stages
pub mod Refusals
