pub mod FaultText
pub mod Stop
pub mod Reply
pub mod Frames
