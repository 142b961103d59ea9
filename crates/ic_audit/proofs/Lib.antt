pub mod Lists
pub mod Loading
pub mod Courses
pub mod Sound
