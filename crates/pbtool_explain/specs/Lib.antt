pub mod Expected
pub mod Window
pub mod Records
pub mod Turns
pub mod Steps
pub mod Source
pub mod Explained
