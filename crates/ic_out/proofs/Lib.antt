pub mod Kept
pub mod Dues
pub mod Finding
pub mod Images
pub mod OneByOne
