pub mod Chain
pub mod Scene
