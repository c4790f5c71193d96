pub mod Sending
pub mod Sink
