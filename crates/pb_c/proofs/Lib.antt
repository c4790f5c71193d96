-- what is reported of an error
pub mod Telling
-- the length before a text
pub mod Lengths
-- what begins with a frame is nothing else
pub mod FrameLaws
-- full names of types as texts
pub mod TypeNames
-- simple names of fields as texts
pub mod FieldNames
-- what is reported of declarations that make no pool
pub mod LinkTelling
-- the numbers of faults are none of the other answers
pub mod AnswerNumbers
-- how many steps are reported of a fault
pub mod StepBounds
-- the bytes of a set make one pool, or have one fault, however they are read
pub mod OneSetPool
-- bytes are one set that is read leniently, or have one fault
pub mod OneLenientSet
-- from one meaning or one fault to what is answered
pub mod Exact
-- sources that are parsed one after another
pub mod SourceSteps
-- sources make one pool, or have one fault
pub mod OneSourcePool
-- what is answered of a place
pub mod PlaceAnswers
-- what is reported of a scalar that was looked for
pub mod FoundTelling
-- for `mb_canon`: bytes that are the canonical bytes of their message
pub mod Copied
-- canonical bytes of copies, and of messages that are compared
pub mod Copies
-- what is answered of a change
pub mod ChangeAnswers
-- for `mb_compat_witness`: what a comparison and its witness ensure
mod Showing
