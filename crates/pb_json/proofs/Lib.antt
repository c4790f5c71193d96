-- for bytes that are put part by part, of which it is said what they may be
pub mod PrintLemmas
-- for names without underscores, and for those that fields are given
pub mod NameLemmas
pub mod GivenLemmas
-- for bytes in base64
pub mod Base64Lemmas
-- for floats
pub mod FloatLemmas
-- for the members and elements of a message's JSON
pub mod MappingLemmas
-- for what types with a form of their own hold
pub mod HeldLemmas
pub mod PathLemmas
pub mod TimeLemmas
-- for the message in an Any
pub mod SlashLemmas
pub mod AnyLemmas
pub mod TaggedLemmas
-- for what is refused
pub mod RefusalLemmas
-- messages as JSON, worked out by the definitions
mod Rows
