pub mod Places
pub mod Alone
pub mod Rules
pub mod Lists
pub mod Refusing
pub mod Works
