-- for the loop that takes a length byte by byte: what the input begins with whose first bytes were taken
pub mod LengthLemmas
-- for `write_delimited`, and for the law that a frame that was written is read back: its length goes out, and then its text
pub mod WritingLemmas
-- for a frame from a device: it is read as its length and then its text
pub mod FrameLemmas
-- for the law of one frame, from which it follows that whatever is right is answered
pub mod OneFrame
-- for frames in turn: the bytes of one, as a length and what it counts, and what comes of an input that begins with none
pub mod SpanLemmas
-- for frames that are held whole: the length of one, what is left after it, and that more may follow
pub mod HeldLemmas
-- small inputs with the frame or the fault that they begin with, worked out by the rules
mod Rows
