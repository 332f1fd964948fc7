pub mod ListOf
pub mod Read
pub mod Repeated
