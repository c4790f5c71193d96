-- for the parts of a line
pub mod LineLemmas
-- for texts that are put part by part, of what nests no deeper than a text may
pub mod PartLemmas
-- for the fields of a message
pub mod FieldLemmas
-- for digits
pub mod NumberLemmas
-- for floats
pub mod FloatLemmas
-- for unknown records
pub mod UnknownLemmas
-- texts by the definitions, worked out
mod Rows
