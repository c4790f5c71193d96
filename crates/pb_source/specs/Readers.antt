-- How the code reads statements: by readers, which are functions, as `pb_source_tokens` has them. Laws in `proofs/` join them to the grammar, and no public
-- contract rests on them: what has to be trusted is `Grammar` and what it names.
pub mod Lines
pub mod Reported
