-- ---- what kinds read and write
-- message types of each shape, for the rows
pub mod Samples
-- what payloads, records and lists of records come to, worked out by the definitions
pub mod Rows
-- each kind's wire type, whether it may be packed or a map's key, and whether it is of proto2 alone
mod KindRows
-- small inputs for a message with groups and closed enums, with their faults
mod FaultRows
-- for the law of packed lists: the numbers of a packed payload
pub mod PackedLemmas
-- for the law of a fault's path: which messages lie at the level of what holds them
pub mod StepLemmas
-- ---- the rules
-- for `is_package`: a package's name, read from some byte on
pub mod WordLemmas
-- for the names of entry messages: such a name is UTF-8 where the field's name is
pub mod EntryNames
-- parts that break one rule each, of files, indexes, fields and syntax
mod RuleRows
-- for the loops that test each element: a step stops at one that fails, and goes on past one that passes
pub mod Loops
-- for imports as a graph
pub mod ImportLemmas
-- for what is known of the files that a file sees
pub mod SightLemmas
-- for the rules of declaration order, and of messages in messages
pub mod OrderLemmas
-- for the rules of oneofs, and of the types that a file sees
pub mod RuleLemmas
-- ---- the rule that full names differ
-- for names that are added one after another, and wherever it counts whether the elements of a list differ
pub mod NameSetLemmas
-- for names of files, each of which differs from those before
pub mod FileNameLemmas
-- for `NameTree`: names as words in scopes
pub mod NameTreeLemmas
-- for `message_names`: full names, level by level
pub mod NameLemmas
-- for packages, added word by word
pub mod PackageLemmas
-- for the loops that declare the names of messages, fields, oneofs, enums and values
pub mod DeclareLemmas
-- names and packages, worked out by the definitions
pub mod NameRows
-- ---- tables and look-ups
-- for lists that are mapped, joined and taken by loops
pub mod AddLemmas
-- for the loops that make a table for each message and each enum
pub mod TableLemmas
-- for the members of a oneof
pub mod MemberLemmas
-- for fields by their numbers, in tables and in the rule that numbers differ
pub mod NumberLemmas
-- for the numbers of an enum's values, and for `Pool::declares`
pub mod ValueLemmas
-- for the look-ups of a pool: fields by number and by name, types and values by name
pub mod LookupLemmas
-- for `==` of two pools: whether their mathematical values are equal
pub mod PoolEq
