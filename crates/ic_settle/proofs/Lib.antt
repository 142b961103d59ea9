pub mod AskedFor
pub mod Firsts
pub mod Allowed
