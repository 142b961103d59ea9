pub mod Cuts
pub mod Found
pub mod Numbers
pub mod Scanning
