pub mod Preparing
pub mod Applying
pub mod Limits
pub mod Laws
pub mod Playing
pub mod Starting
pub mod Replaying
pub mod Quiet
