pub mod Refusing
pub mod Seats
pub mod Steps
pub mod Serving
pub mod Recovering
pub mod Opening
