pub mod Changed
pub mod CountLaws
pub mod Counts
pub mod Faultless
pub mod Finds
pub mod Moves
pub mod Overlays
pub mod Violations
