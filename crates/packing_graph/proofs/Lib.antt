pub mod SetLemmas
pub mod WalkLemmas
pub mod Reached
