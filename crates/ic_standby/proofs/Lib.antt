mod Fresh
pub mod Shipping
