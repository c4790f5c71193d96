-- for names of members: the places of the first things that have a name, and tables of these
pub mod NameLemmas
pub mod PlaceLemmas
pub mod NameTableLemmas
-- for readers of single values: the one thing of which a fact holds, and what is read of none
pub mod ScalarLemmas
pub mod ValueLemmas
-- a JSON value means one thing at most, and is read as one thing at most
pub mod UniqueScalars
pub mod UniqueReads
-- for what reads: what is read step by step, and the keys of entries
pub mod ReadLemmas
pub mod EntryLemmas
-- for what an Any holds
pub mod AnyLemmas
-- for the paths of field masks
pub mod TextsLemmas
-- small cases, worked out by the definitions
mod Rows
mod FormRows
mod AnyRows
mod EnumRows
mod MemberRows
-- for the whole call
pub mod TextLemmas
