pub mod ErrorNumber
pub mod Sizes
pub mod Parts
pub mod Measure
pub mod Planned
pub mod Writing
pub mod Encoding
