pub mod Formula
pub mod ByStation
pub mod Decode
pub mod Examples
pub mod Laws
