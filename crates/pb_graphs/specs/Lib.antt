pub mod Cycles
pub mod Flat
pub mod Reach
pub mod Walks
