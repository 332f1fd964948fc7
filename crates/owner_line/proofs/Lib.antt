pub mod OwnerLineLemmas
pub mod OwnerLemmas
pub mod OwnLineLemmas
