-- payloads of a kind's wire type are read as one scalar
pub mod ReadLemmas
-- the records that count for a field of one value, after one more record
pub mod CountLemmas
-- what is found, record by record, is the scalar that the message has at the path
pub mod FoundLemmas
-- what an iterator gives of one record
pub mod OnlyLemmas
-- for the tests of records: which of them count for a field, which end what was found, and where a path leads
pub mod TargetLemmas
-- for records that are read and looked through at once
pub mod WalkLemmas
-- for records that are read past: they leave what was found as it is
pub mod PassingLemmas
-- for `find`: what is found of an encoding is the scalar of its message
pub mod FindLemmas
