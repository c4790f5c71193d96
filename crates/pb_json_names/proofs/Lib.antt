-- for values that are lists, and unknown records
pub mod HeldLemmas
-- for names that are kept
pub mod NameLemmas
-- for names that are added
pub mod AddingLemmas
-- the names of a small set, worked out by the definitions
mod Rows
