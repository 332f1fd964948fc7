pub mod WalkStateLemmas
pub mod PickLemmas
pub mod MapStatusLemmas
pub mod AnswerLemmas
