-- ---- bytes, and what a call says of them
-- for places in bytes, and the bytes after this many of others
pub mod PlaceLemmas
-- for what a call says of its answer: one that is there, a sign that is not set, a count that is zero
pub mod AnswerLemmas
-- ---- the open part, and what records make of it
-- for `occurrences`: what a search finds among rising numbers, and the count of each number after a change
pub mod CountLemmas
-- for the counts of records, as the occurrences of steps of a path
pub mod StepCounts
-- for the open part: a fault inside is the fault of the whole, and a payload that ends is one more record of its parent
pub mod OpenedLemmas
-- for the parents of the open part: what is reported from them, and how they change
pub mod ParentLemmas
-- for the same wherever the reader is: it is well formed
pub mod WellLemmas
-- ---- what is opened, and what a whole record makes of its part
-- for the messages and entries that are opened
pub mod OpenLemmas
-- for a packed list that is open: its whole elements so far are in the field
pub mod PackedLemmas
-- for an element or an entry that is opened and was not there before
pub mod OpenMore
-- for what a length or the tag of a group opens, by the target of its record
pub mod OpenSteps
-- for a whole record by its target: a scalar, an element, an unknown record; and for the end of a group
pub mod StepsOfParts
-- for a whole record of a map entry, and the message of its value
pub mod EntrySteps
-- for a packed payload so far: one more element is one more number at its end
pub mod PackedNumbers
-- for packed lists of closed enums, where a number that is not declared is unknown
pub mod ClosedLists
-- for what is begun after the last whole record: tokens that go on, payloads, elements of a list
pub mod AfterLemmas
-- for what a field's kind says of a record that fits it
pub mod KindLemmas
-- for a number after its tag
pub mod NumberSteps
-- for a packed list: its length, its elements, their faults, and its end
pub mod ListSteps
-- for an unknown number, which goes among the unknown records
pub mod UnknownSteps
-- for a number that a closed enum does not declare, which goes there too
mod UndeclaredSteps
-- for a whole payload after its length, also where it is refused
pub mod PayloadSteps
-- for records that open a level below, too deep where no level is left
pub mod DeepLemmas
-- for numbers at the start of bytes: what `pb_wire` says of a token
pub mod NumberTokens
-- for a group that is open: it ends at its end tag alone
pub mod GroupLemmas
-- for groups of which no schema knows, opened in a message, in an entry, in a group
pub mod GroupSteps
-- for tags, ends of groups and lengths that are refused: that is the fault of the whole
pub mod TokenReports
-- for entries and groups that close: what the part that holds them is then
pub mod ClosingLemmas
-- for runs of packed elements that are taken at once
pub mod RunLemmas
-- for a map that takes entries at once: it has those that it has where it takes them in turn
mod MapLemmas
-- for map entries that are put in at once: in the fields of a message, in a part, and one more of them
pub mod MapPuts
