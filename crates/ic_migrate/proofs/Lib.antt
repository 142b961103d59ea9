pub mod Components
pub mod Formers
pub mod Together
pub mod Wholes
