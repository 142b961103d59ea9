pub mod Taken
pub mod Views
pub mod Senders
pub mod Laws
