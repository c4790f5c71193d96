-- names that are UTF-8
mod NameLemmas
-- what is in brackets
mod KeyLemmas
-- what a path spells is read of it
mod ReadLemmas
-- what is read of a path is spelled by it
mod DeriveLemmas
-- a path spells one place
mod PlaceLemmas
-- the spelling of a place
mod SpelledLemmas
-- fields of a pool by their names and numbers
mod PoolLemmas
-- examples of paths, and of bytes that are none
mod Rows
