pub mod BuiltIn
pub mod Folders
pub mod Overlay
pub mod WithMemory
