pub mod Firsts
pub mod Pushing
pub mod Leaving
pub mod Listing
pub mod Counting
pub mod Sorting
pub mod Showing
