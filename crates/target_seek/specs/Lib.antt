pub mod TopChannels
pub mod BinarySearch
pub mod Searching
pub mod Examples
