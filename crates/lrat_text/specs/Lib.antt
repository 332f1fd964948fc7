pub mod Examples
pub mod Lines
pub mod Write
pub mod Steps
pub mod Read
pub mod OneSpelling
pub mod WholeText
