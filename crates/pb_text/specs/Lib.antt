pub mod Lines
pub mod Strings
pub mod Numbers
pub mod Values
pub mod Unknown
pub mod Text
