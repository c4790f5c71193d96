-- for `descriptor_pool`: the fixed types are a pool, each rule shown by a test that computes
pub mod PoolRules
-- ---- sets that are written
-- for fields of rising numbers, one after another
pub mod FieldsWith
-- for the loop that makes the fields of a message from their contents
pub mod ContentLemmas
-- for what declarations are written as: it fits the fixed types, and only its depth can refuse it
pub mod WrittenFits
-- for the depth of the messages that declarations are written as
pub mod DepthLemmas
-- for that depth by how deep messages are declared in each other, in the crates above too
pub mod NestLemmas
-- for the law that real files within the limits can be written
pub mod RangeLemmas
-- for the law that what was written is read back as the declarations
pub mod RoundTrip
-- for `write_set`: why a set is refused
pub mod WriteLemmas
-- ---- sets that are read
-- for the messages that a field holds: what they declare, and why they are refused
pub mod HeldLemmas
-- for the first of joined causes
pub mod JudgeLemmas
-- for `read_set`: why the message of a set is refused
pub mod ReadLemmas
-- for `read_set` part by part: sets that are joined
pub mod JoinedSets
-- for sets that are read leniently: messages changed in place, one by one
pub mod WithoutLemmas
-- for the list of what they leave out
pub mod OmittedLemmas
-- for the law that lenient reading is strict reading where nothing is left out
pub mod NothingOmitted
-- for the law that lenient reading is strict reading of the bytes of the set without its parts: that set is well formed
pub mod LenientStrict
-- for the law that bytes are one set, or have one fault or first cause
pub mod OneSet
-- for files that are written as a set without a cause, as the declarations of a pool are
pub mod SilentLemmas
-- small sets with their declarations, bytes and causes, worked out by the rules
mod Rows
-- messages without their parts, what is left out of sets, and the causes of what stays
mod LenientRows
