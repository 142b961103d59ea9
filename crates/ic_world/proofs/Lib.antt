pub mod Tasks
mod Histories
pub mod Lists
pub mod Made
pub mod Firsts
pub mod Cores
pub mod Sizes
pub mod Answered
pub mod Refusals
pub mod WorkSteps
pub mod Acts
pub mod Refusing
pub mod Failing
pub mod Crashes
pub mod Counting
pub mod ComponentReads
pub mod Stepped
pub mod Places
pub mod Refused
pub mod Makings
pub mod Begun
pub mod Asked
pub mod Opened
pub mod FoundWorlds
pub mod StartedWorlds
pub mod InnerFiles
mod Renewals
pub mod Explained
pub mod Durable
pub mod Unmoved
mod TakeOvers
