pub mod Queries
pub mod Settled
pub mod Cut
pub mod Settling
pub mod StepReplay
