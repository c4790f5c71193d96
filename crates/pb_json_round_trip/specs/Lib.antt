pub mod Texts
pub mod Scalars
pub mod WellKnown
pub mod Messages
