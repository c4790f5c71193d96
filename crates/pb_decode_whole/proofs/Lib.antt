-- for what comes after a tag
pub mod Tags
-- for a packed list that may take more elements
pub mod ListHolds
-- for the part that holds the one that is read
pub mod Held
-- for records one after another, and what a record opens after its length
pub mod Payloads
-- for groups
pub mod GroupReads
-- for the message itself, from its first record to its last
pub mod Top
-- for elements of one list that follow each other
pub mod ListedLemmas
-- for map entries that follow each other
pub mod MapRuns
