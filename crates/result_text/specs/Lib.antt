pub mod Examples
pub mod ChannelsText
pub mod ResultText
