-- The open parts, what records are for in them, and what they open.
pub mod Opened
pub mod Parents
pub mod PartView
pub mod Targets
pub mod Occurrences
pub mod Openings
pub mod Opens
