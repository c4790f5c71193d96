-- ---- texts that go out through the buffer
-- for records that an iterator gives, put one after another
pub mod Borrowing
-- for the parts of a listing of records, and of a shortest spelling
pub mod Lines
-- for payloads that are listed as messages
pub mod NestedLemmas
-- ---- the lines of a message
-- for texts that are put part by part, of things that stand no deeper than lines may
pub mod PuttingLemmas
-- the same, of which it is said what they may be
pub mod MeantLemmas
-- for what the parts of a message print
pub mod ListingLemmas
-- for floats in decimal
pub mod DecimalLemmas
-- for the listing where floats are listed by their bits
pub mod BitsLemmas
-- the lines of the types of a pool
pub mod TypesLemmas
-- the listing of some bytes by a schema, worked out by the rules
mod ListingRows
-- floats in decimal, and payloads that are listed as messages
mod FormRows
