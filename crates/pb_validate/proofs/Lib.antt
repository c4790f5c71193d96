-- for tokens at an index: the places before and after them
pub mod HereLemmas
-- for the judge of records: fronts of whole records, and what refuses the others
pub mod JudgeLemmas
-- eight bytes as a number, and the bytes that end varints
pub mod WordBits
-- varints one after another
pub mod VarintRuns
-- bytes that are whole records
pub mod WholeLemmas
