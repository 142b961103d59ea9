pub mod Onward
pub mod Views
pub mod Shipping
