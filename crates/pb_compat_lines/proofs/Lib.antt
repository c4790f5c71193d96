-- for the lines that are added
pub mod LineLemmas
-- for what the lines of a comparison are together
pub mod VerdictLemmas
-- worked reports
pub mod Rows
