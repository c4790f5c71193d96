-- ---- the loops of the parser, each turn a step of a reader, and what they put together
-- for what is read where no symbol is left
pub mod NoStatement
-- for what statements say, one after another
pub mod SaidSteps
-- for the parts of a message and of a file, one statement after another
pub mod PartSteps
-- ---- the lines of the grammar: their readers keep what they owe
-- kinds of statements by tables of words and signs, and bodies in braces
pub mod StatementKinds
-- fields and maps
pub mod FieldLaws
-- what is reserved
pub mod ReservedLaws
-- enums and services
pub mod BodyLaws
-- lines that only some of the grammars have
pub mod GrammarLines
-- groups, and what is a field or a group
pub mod GroupLaws
-- oneofs
pub mod OneofLaws
-- extensions
pub mod ExtensionLaws
-- messages
pub mod MessageLaws
-- files
pub mod FileLaws
-- ---- whole sources
-- for faults: a reader of a language tells exactly those, and reads exactly its words
pub mod FaultLemmas
-- for readers of statements that may go further
pub mod GrowingLines
-- for symbols: they are one file, or have one fault
pub mod OneFile
-- for sources: what the reader of files gives on their symbols is their declaration or their fault
pub mod SourceLaws
-- for what is made of sources, in the crates above: messages stand in each other at most 65 deep
pub mod NestLemmas
-- for the law that a source is one file, or has one fault
pub mod OneSource
-- for the law that a source of the strict grammar is one of all of proto3
pub mod StrictFiles
-- for `parse`: what it tells is the declaration, or the fault and no other
pub mod ParseLemmas
-- for the statements of a message, by the levels that are left for nested messages
pub mod RoomSteps
-- for the loop over a file, up to its end
pub mod EndSteps
-- for the full names of entry messages, part by part
pub mod ScopeSteps
-- for what the statements of a file come to
pub mod FileSteps
-- for where the code looks one symbol ahead: readers that give the same
pub mod Bridges
-- ---- worked out by the rules
-- small files with their declarations and faults
mod GrammarRows
-- small files of all of proto3, too
mod LenientRows
