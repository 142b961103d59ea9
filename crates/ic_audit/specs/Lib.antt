pub mod Logs
pub mod Disks
pub mod Audits
pub mod Views
pub mod Steps
pub mod Judged
