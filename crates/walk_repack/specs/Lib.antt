pub mod WalkState
pub mod Steps
