-- ---- what the code reads and writes
-- for `put_varint` and the loop that reads a varint: the number that groups of seven bits make
pub mod VarintLemmas
-- for `scan_varint`: what a varint of the bytes before a known end says of the place where they begin
pub mod ScanLemmas
-- for `scan_at.rt`: what is at the front of a slice, as what is at an index of the bytes
pub mod HereLemmas
-- for the readers of records and those that judge them: the parts of tags, and places as bytes are passed
pub mod ReadingLemmas
-- for the numbers of four and of eight bytes: their bytes at an index, as code slices them
pub mod FixedLemmas
-- for what reads records and what writes them: what each variant of `Unknown` means
pub mod UnknownLemmas
-- for the loops of `can_write` and `write_raw`: lists of records, one by one
pub mod WritingLemmas
-- for `write_raw` and `judge_raw`, which know no field: records are sound exactly where they nest no deeper than the levels left
pub mod DepthLemmas
-- for the loop of `write_all`: bytes that go out in two parts
pub mod Transfers
-- ---- the law of one fault, from bytes to texts
-- for one reading of bytes at most, and for `can_write`: no spelling begins another
pub mod Unique
-- for all that follows some bytes: the same bytes lead to the same place
pub mod Places
-- each token has one reading or one fault
pub mod Tokens
-- and so has the payload of a packed list, element by element
pub mod Elements
-- two fronts of whole records from one place: one goes as far as the other, or a record follows
pub mod Fronts
-- for the path of a fault: the records before a record determine its step there, and nothing else
pub mod Behind
-- bytes that are read whole have no fault, and others at most one
pub mod OneFault
-- bytes are read whole, or have a fault
pub mod Total
-- for records that were read: they are in range, and can be written
pub mod RangeLemmas
-- the law itself, for places, frames and texts, and for `read_raw`
pub mod ExactLemmas
-- ---- the laws beside it
-- for the law of longer texts: a fault other than the end of the input stays the fault when more bytes come
pub mod Longer
-- for the law of a fault's byte: where a fault is reported, between the place that is read from and the end of the input
pub mod FaultBounds
-- for the law of a fault's path: how many steps it has, by the levels left
pub mod PathBounds
-- ---- records without memory
-- for the groups that an iterator holds open, one inside another
pub mod Nesting
-- for `record_at` and the end of a value: records as an iterator shows them
pub mod RecordIterLemmas
-- for each call of an iterator: it gives the first of what is left
pub mod RecordIterSteps
-- for `RecordIter::new`: what an iterator gives from its start on
pub mod RecordIterStart
-- for callers that loop over an iterator: what a run of calls gave
pub mod RecordIterRuns
-- for `judge_raw`: bytes that are judged as records, from one place to a later one
pub mod JudgingLemmas
-- ---- what is written
-- for the law of the shortest encoding: it is a spelling, and none is shorter
pub mod ShortestLemmas
-- for the law of reading back: records come back from each of their spellings
pub mod InsideLemmas
-- small texts with their records and faults, worked out by the rules
mod Rows
