-- From what a function's callee answers to what it answers itself.
pub mod ReplyLemmas
-- The loop over the requests of an input.
pub mod FrameLemmas
