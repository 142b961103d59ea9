pub mod Policies
pub mod Outstanding
pub mod Settling
