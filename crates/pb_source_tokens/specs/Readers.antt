-- How the code reads symbols: by readers, which are functions. Laws in `proofs/` join them to the grammar, and no public contract of `pb_source`
-- rests on them: what has to be trusted of these lines is `Phrases` and what it names.
pub mod Forms
pub mod Phrases
pub mod Given
