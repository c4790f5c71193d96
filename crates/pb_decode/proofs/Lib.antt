-- ---- whole messages and pieces
-- for the end of the input: a whole message, or the fault that it is cut short
pub mod FinishLemmas
-- for counts of records, which never pass the position: each record takes a byte at least
pub mod FewRecords
-- ---- the reader, and what it takes
-- for each step of the reader: it takes bytes, and has some input read
pub mod ReaderLemmas
-- for what a reader may do wherever it has some input read
pub mod ReaderSafe
-- for the path of a fault: the steps of the parents, outermost first
pub mod PathLemmas
-- for an element of a packed list, where the reader is
pub mod ElementLemmas
-- for pieces: more bytes, too many bytes, and the end
pub mod PushLemmas
-- for the one answer: what is right is answered
pub mod DecodeLemmas
-- for the length of a record
pub mod LengthTaken
-- for whole records that are taken at once
pub mod WholeRecords
-- for a payload of bytes
pub mod PayloadTaken
-- for parts that end where the reader is
pub mod EndedLemmas
-- for a reader where a part or a payload begins
pub mod LengthSteps
-- for a tag, or the end of the input, after a whole record
pub mod TagTaken
-- for a reader that stops: it waits for the rest of what comes next
pub mod WaitLemmas
-- ---- pieces, and what is held between them
-- for a piece, which is taken part by part
pub mod PieceLemmas
-- for what is held where a reader stops, and how much is open there
pub mod PendingLemmas
-- for one place where the elements of a list end and one that is not whole begins
pub mod OneElement
-- for the one answer of what waits: where bytes end inside an encoding, one thing is open, and so much of it is given
pub mod OneEnd
-- for `PushDecoder`: what it has taken, what waits, and the open parts
pub mod DecoderLemmas
-- for `feed` and `finish`: what was taken is an encoding, or is cut short, and nothing else
pub mod GoingLemmas
-- ---- the calls
-- for the contracts of the calls: what is known of an answer or of a fault, said weaker, and that what is right is answered
pub mod Outcomes
-- for a reader from where it began to the end of its message
pub mod StartLemmas
-- for `decode` and `decode_onto`: an input onto what the reader began with, or its fault
pub mod OntoText
-- for an input: its bytes, read piece by piece
pub mod DeviceLemmas
-- for frames: a fault at a later position is as much later
pub mod LaterLemmas
-- for frames: where all bytes before the known end are given, no fault says that the input ends too early
pub mod GivenLemmas
-- for `decode_frame`: bytes up to a known end are a message, or have its fault
pub mod InFrame
