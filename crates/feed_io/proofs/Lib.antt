pub mod Copying
pub mod Fronts
pub mod GenWords
pub mod Generated
pub mod Packets
pub mod Spellings
pub mod TraceFeeds
