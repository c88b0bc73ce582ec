pub mod Captures
pub mod FramePackets
pub mod FrontOctets
pub mod Moving
pub mod Parts
pub mod PcapWords
pub mod Written
