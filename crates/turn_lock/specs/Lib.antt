pub mod NumberList
pub mod Passes
pub mod Turns
