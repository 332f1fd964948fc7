pub mod Answering
pub mod Numbers
pub mod Cache
pub mod KeptRefutation
pub mod Laws
pub mod StationBits
pub mod Suggesting
pub mod Walks
