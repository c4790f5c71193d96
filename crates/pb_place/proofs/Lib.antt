-- for `at`: where a step leads from a list, a map or a value
pub mod Steps
-- for lengths, and numbers laid over a buffer
pub mod Counts
-- for changes: a message stays well formed where a message in it is replaced
pub mod Kept
-- for changes: how deep a changed message nests
pub mod Deeper
-- for the way to a message: what one step of it leaves of the claim
pub mod Walks
-- for places that end at a field
pub mod Ends
-- for the whole message after a change
pub mod Whole
-- small cases of changes, worked out by the definitions
mod ChangedRows
