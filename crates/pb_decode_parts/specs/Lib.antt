pub mod Open
pub mod Tokens
pub mod Values
pub mod Close
