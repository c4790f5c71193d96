-- ---- why a text is refused
pub mod Faults
-- ---- what single parts are read as
pub mod WellKnown
pub mod Names
pub mod NameTables
pub mod Tables
pub mod Scalars
pub mod Values
pub mod Keys
-- ---- messages
pub mod Steps
pub mod Anys
pub mod Forms
pub mod Reads
pub mod Answers
