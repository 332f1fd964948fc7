pub mod Draws
pub mod GeneratedFiles
pub mod Accepted
