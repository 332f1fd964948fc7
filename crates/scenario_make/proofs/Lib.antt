pub mod RangeLemmas
pub mod DrawLemmas
pub mod ScenarioLemmas
pub mod LineReadings
pub mod DomainReadings
pub mod RowReadings
pub mod AcceptedLemmas
