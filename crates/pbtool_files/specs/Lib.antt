pub mod FileMap
pub mod MemFiles
pub mod Report
pub mod Answer
pub mod Refusal
pub mod Known
pub mod SetFile
