pub mod RuleLemmas
pub mod RoundOrderLemmas
