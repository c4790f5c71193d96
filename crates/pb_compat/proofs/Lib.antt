-- shapes of fields that are gathered one by one
pub mod OneofLemmas
-- elements of lists by their index
pub mod Lists
-- pairs of types, each once, and how each is reached
pub mod WalkLemmas
-- the pairs where a walk begins
pub mod BeginLemmas
-- numbers that lead on are numbers of fields
pub mod NumberLemmas
-- the pairs that are compared, one after another
pub mod ComparedLemmas
-- scalars that a new kind reads of what an old kind wrote
pub mod ScalarLemmas
-- what a new kind reads of the records that scalars were written as
pub mod FieldLemmas
-- some of the fields of a message, and their records
pub mod OnlyLemmas
-- what the new kind reads of one value
pub mod ConvertLemmas
-- what a new field holds of the records of an old field's content
pub mod HoldingLemmas
-- which of these records count
pub mod ContentLemmas
-- members of oneofs of which an old message sets at most one
pub mod CrowdLemmas
-- fields that no difference breaks
pub mod BreaksLemmas
-- what a field of the new type reads, whatever the other fields hold
pub mod LocalLemmas
-- whole messages, one level
pub mod MessageLemmas
-- one field of a message
pub mod FieldReadLemmas
-- whole messages of any depth
pub mod WholeLemmas
-- canonical records of an old message that are sound for the new type
pub mod EncodingLemmas
-- one field that no difference breaks
pub mod KeptLemmas
-- what differences that do not break say of messages
pub mod EffectLemmas
-- what a comparison that reports no break says
pub mod ReportedLemmas
-- kinds that are not kept: a value that the new kind reads otherwise
pub mod LostLemmas
-- worked cases of the rules
pub mod Rows
-- worked cases of what differences that do not break do to messages
pub mod EffectRows
-- worked lines of differences
pub mod LineRows
-- worked cases of the pairs of a comparison
pub mod PairRows
-- worked cases of messages that agree
pub mod MessageRows
-- full names are in UTF-8
pub mod NameLemmas
-- types of the same full name, in order
pub mod NamesakeLemmas
-- what a well-formed message of the new type does not hold as the same
pub mod NeverLemmas
-- messages of one field, or of two, that the new type does not read as the same
pub mod WitnessLemmas
-- what a message of the new type holds in a field whose records are all known
pub mod ReadingLemmas
-- values of messages that show a break
pub mod SampleLemmas
-- packed lists of one element that another kind reads
pub mod ElementLemmas
-- packed lists of one number of a closed enum, as lists of a kind of another wire type
pub mod ClosedLemmas
-- values that the new kind does not read as the same, wherever they are
pub mod LostValueLemmas
-- values that the new kind reads otherwise, or whose records do not fit
pub mod OtherwiseLemmas
-- how long the records of small contents are
pub mod ShortLemmas
-- which messages show that a change of a field breaks reading
pub mod ShownLemmas
-- packed lists of one element that the new kind reads as another one
pub mod PackedLemmas
-- maps of one entry whose key or value is unlike what the new kind reads
pub mod MapLemmas
-- messages of two fields that the new type has in one oneof
pub mod PairLemmas
-- fields that the new type has in one oneof: a partner exactly where the oneof is crowded
pub mod PartnerLemmas
-- a message is built exactly where a difference breaks
pub mod ExactLemmas
-- values and keys that fields may hold
pub mod FillLemmas
-- bodies into which a content is put
pub mod BodyLemmas
-- the messages that the call builds
pub mod BuiltLemmas
-- messages of one field that hold a message which is misread
pub mod NestedLemmas
-- what is built round a message that is misread, for a field that leads to its type
pub mod RoundLemmas
-- from types of a comparison back to those with which it began
pub mod ClimbLemmas
-- steps of a comparison, as few as the fields that lead to a pair
pub mod FewLemmas
