pub mod Joins
pub mod Lists
pub mod Makes
pub mod PassLists
pub mod Steps
pub mod Views
pub mod Weighs
