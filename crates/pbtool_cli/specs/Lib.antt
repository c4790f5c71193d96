pub mod Explained
pub mod Misuse
pub mod Running
pub mod StandardFiles
pub mod Words
