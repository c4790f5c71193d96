-- ---- what the other files use
-- for tests that tell numbers apart, and for fields found by their numbers
pub mod Numbers
-- for what is known of an optional value
pub mod Options
-- for records that are spelled: their bytes are below 256
pub mod BytesLemmas
-- for code that takes values, contents and bodies apart: what each variant stands for
pub mod Views
-- ---- judging: which bodies are well formed, and why others are refused
-- for the causes of refusals: what it says where there is none
pub mod JudgeLemmas
-- for the law of the order of keys, and for fields that rise
pub mod OrderLemmas
-- for the loops that judge bodies and unknown records
pub mod CheckLemmas
-- for how deep values nest that are no messages
pub mod DepthLemmas
-- for the law that a well-formed message has no cause, and for `DynamicMessage::from_body`
pub mod NoCause
-- ---- changes, and messages inside others
-- for each change of one field: it keeps a message well formed
pub mod ChangeLemmas
-- for the member of a oneof that is set, which is found among the numbers of its members
pub mod OneofLemmas
-- for look-ups and changes in a body: its map of contents beside the fields that it stands for
pub mod FieldViews
-- for `MessageRef`: the messages that a well-formed message holds are well formed
pub mod InnerLemmas
-- for full names, from a type to the one around it: a type comes after the one that it is declared in
pub mod NameOrder
-- for elements and entries: a list of values and a map of entries beside what they stand for
pub mod PartViews
-- for `push` and `insert`: one more element and one more entry keep a message well formed
pub mod PartLemmas
-- for contents that are changed in place, and that a message stays well formed then
pub mod InPlace
-- for `remove`: an entry less of a map
pub mod Removed
-- for `set_element` and `remove_element`: another element in a list, or one less
pub mod Elements
-- for `Change`: what it makes of a message of a type
pub mod Edits
-- ---- small cases, worked out by the rules
-- the types that they are of
mod Table
-- the value of some bytes, and its canonical bytes
mod Rows
-- the messages inside a message
mod InnerRows
-- pushes and insertions: why they are refused, and what they leave
mod ChangeRows
-- bodies, and contents that are set: why they are refused, and what is left
mod CauseRows
-- two oneofs, lists of messages, later parts of one message, a hundred levels, the order of keys
mod ValueRows
-- a message of proto2: its value, its canonical bytes, and why a value is refused
mod Proto2Rows
-- one message over another, each way, and more records after a message's own
mod MergeRows
-- a text with a record of each reading
mod SoundTexts
-- the bytes of a nested message, as a text of its value
mod Texts
-- messages that are well formed, and some that are not
mod Forms
-- ---- the law of well-formed values: what sound records in range mean is well formed
-- for facts that hold of each element of a list
pub mod ListLemmas
-- what is read from payloads in range is of the kind that it is read as
pub mod ElementLemmas
-- what soundness says of a payload, and how deep sound records nest
pub mod SoundLemmas
-- for records as the payload of a kind: after their length, or as a group
pub mod GroupLemmas
-- what is known of the records that count for a field
pub mod FittingLemmas
-- which records count, and which are unknown, also where lists of records are joined
pub mod KnownLemmas
-- entries that are put under keys stay entries of their kinds, with keys that rise
pub mod EntryLemmas
-- what a field holds is of its shape and its kind
pub mod HeldLemmas
-- the law itself, level by level
pub mod ValueLemmas
-- ---- what one more record makes of a message, for what reads records one by one
-- fields that rise are known by what stands at each number
pub mod FieldExtent
-- what one more record makes of the fields that records give
pub mod StepLemmas
-- what it makes of a field of each shape
pub mod ShapeSteps
-- of each oneof at most one member is set, whatever the records are
pub mod OneMember
-- what one more record makes of a whole message
pub mod MessageSteps
-- ---- the round trip: a message is the value of its canonical records
-- for maps: the order of keys, and a map that is made of its entries in order
pub mod KeyLemmas
-- for the law of canonical spellings: they are in range, and can be written where their bytes are few enough
pub mod CanonLemmas
-- what is read of the payloads that values were written as
pub mod WrittenLemmas
-- for lists of records that all pass a test, or of which none does
pub mod Lists
-- a field holds the value of the records that it was written as
pub mod HeldBack
-- the records that count for a field are those that it was written as
pub mod FieldBack
-- of a oneof the one member that is set is read back
pub mod OneofBack
-- for packed lists of closed enums, whose elements count as records of their own
pub mod OpenedLemmas
-- a message is the value of its canonical records
pub mod BodyBack
-- of a oneof either no record fits a member, or all that do are those of the one that is set
pub mod MemberBack
-- for their bytes: canonical records are sound, where no payload is too long for the wire
pub mod CanonSound
-- the law itself: the canonical bytes are a text of the message, and of no other
pub mod RoundTrip
-- ---- joined records and merged messages
-- for the law of joined records: of the first ones only their value counts
pub mod JoinLemmas
-- for the law of reading onto a message, as reading after any records that it is the value of
pub mod OntoLemmas
-- for the law of merging: a message over another, as the canonical records of one after records of the other
pub mod MergeLemmas
-- for that law also: a well-formed message over another is well formed
pub mod MergedWell
-- for the laws of reading onto a message and of merging, as texts one after another
pub mod JoinedTexts
-- for reading onto a message: what more sound records make of it is well formed
pub mod OntoWell
-- for the loop of merging: what one more field of the second message changes
pub mod MergeSteps
-- for merging in place, field by field
pub mod MergeInPlace
