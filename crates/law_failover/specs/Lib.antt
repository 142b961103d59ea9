pub mod Growing
pub mod Failover
