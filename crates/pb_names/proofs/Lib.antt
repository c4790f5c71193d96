-- for tables of names that are kept after their hashes
pub mod NameHashLemmas
-- for `NameSet`: tables by which names are found, and one more name in them
pub mod NameIndexLemmas
