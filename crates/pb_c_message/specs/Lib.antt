pub mod Plain
pub mod Places
pub mod Steps
pub mod Answers
pub mod Keys
pub mod NewValue
pub mod Ends
pub mod Holds
