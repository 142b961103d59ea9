pub mod Tasks
pub mod Working
pub mod Components
