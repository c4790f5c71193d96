pub mod Reporting
pub mod Typed
pub mod Json
pub mod Decoder
pub mod Text
