pub mod Crosses
pub mod Faultless
pub mod PassLemmas
pub mod PostLemmas
pub mod WasCurrentLemmas
