-- what a message has where steps lead is one
pub mod OneAnswer
-- steps that are read one after another
pub mod StepLemmas
-- strings as keys
pub mod KeyLemmas
-- the numbers of fields
pub mod FieldLemmas
-- small cases of the definitions
pub mod Rows
-- for keys that are left, and lists that are laid over a buffer
pub mod KeyLists
-- places that end at a key
pub mod Entries
-- a change that C says ends in one way
pub mod OneEnd
-- canonical bytes are an encoding of their message alone
pub mod Canonical
-- a scalar on a path of fields is what a message has at the place of these
pub mod Paths
