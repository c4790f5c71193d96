pub mod Base64Text
pub mod Blanks
pub mod Decoding
pub mod Hexadecimal
pub mod Names
