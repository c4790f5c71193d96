-- ---- the lines of refusals
-- for the path in a line, step by step
pub mod Paths
-- for the line that tells a fault of a source
pub mod SourceLines
-- for what a refusal comes to
pub mod RefusalLemmas
-- ---- files
-- for files after something was opened
pub mod KnownLemmas
-- for bytes that are judged while they are read
pub mod FirstPieces
-- for a set that makes no pool
pub mod SetFileSteps
