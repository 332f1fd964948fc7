pub mod CountLemmas
pub mod ExampleLemmas
pub mod ReplayLemmas
pub mod RowLemmas
pub mod StepLemmas
