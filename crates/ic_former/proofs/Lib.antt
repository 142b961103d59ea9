pub mod ReadBatches
pub mod Differences
pub mod Naming
pub mod Headers
pub mod Ends
pub mod Building
pub mod Refusing
