pub mod Name
pub mod Steps
pub mod Members
pub mod ScenarioOf
pub mod Join
pub mod StartOnly
pub mod Write
