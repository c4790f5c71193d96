-- for digits in escapes, one after another
pub mod DigitLemmas
-- for loops over bytes that pass a test
pub mod RunLemmas
-- for the loops over strings
pub mod StringLemmas
-- for the loop over tokens, and why a text has one list of tokens or one fault
pub mod LexLemmas
-- small texts, their tokens and their faults
mod Rows
