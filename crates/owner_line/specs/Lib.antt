pub mod OwnersOf
pub mod Read
pub mod OwnLines
pub mod Laws
