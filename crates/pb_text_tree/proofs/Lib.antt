-- for one thing after another, and one step after another
pub mod StepLemmas
-- for what the next token is not
pub mod SourceLemmas
-- for a message, by its brace and its levels
pub mod MessageLemmas
-- for what the code's values represent
pub mod ViewLemmas
-- why tokens are one tree, or have one fault
pub mod OneReading
-- why bytes are a text of one tree, or have one fault
pub mod TextLaws
-- small texts, their trees and their faults
mod Rows
