-- names that share what they begin and end with
pub mod NearLemmas
-- lines, one after another
pub mod LineLemmas
-- examples
pub mod Rows
