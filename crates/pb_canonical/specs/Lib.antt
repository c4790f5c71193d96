pub mod Canonical
pub mod Parts
