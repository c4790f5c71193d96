pub mod Characters
pub mod Digits
pub mod Fault
pub mod Numbers
pub mod Strings
pub mod Tokens
pub mod TokenView
