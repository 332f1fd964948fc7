pub mod FoundLemmas
pub mod ListLemmas
