-- bytes of records, cut after the first
pub mod SplitLemmas
-- varints that are the shortest of their number, by their last byte
pub mod ShortestVarints
-- for scalars: the payloads that values of a kind are written as, and their order as keys
pub mod ScalarLemmas
-- unknown records, one after another
pub mod UnknownLemmas
-- the records of fields: values, lists and maps
pub mod HeldLemmas
-- fields and messages
pub mod FieldLemmas
-- bytes begin with one varint, one tag and one payload only
pub mod SameLemmas
-- oneofs: marks, records of members, and the fields that are written as them
pub mod OneofLemmas
-- what is to be found where a value, a packed list, a list or a map comes first
pub mod ValueNext
-- what is to be found where a field or a message comes first
pub mod FieldNext
