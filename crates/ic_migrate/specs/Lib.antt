pub mod Logged
pub mod NewLogs
pub mod Refusals
pub mod Migrations
