pub mod Readings
pub mod StationsPlaced
pub mod StationsAscend
pub mod Limits
pub mod ChannelsOf
pub mod WrittenLemmas
pub mod WrittenText
pub mod StartLemmas
