-- ---- tokens
-- for where a comment ends
pub mod CommentLemmas
-- for texts that are cut: tokens begin and end with ASCII bytes
pub mod AsciiLemmas
-- for the loop of `lex`: whole tokens, and then one thing more
pub mod LexLemmas
-- for what stands at the front of bytes: a blank, a comment or a token
pub mod PieceLemmas
-- for digits by the numbers that they count, in escapes and in what they mean
pub mod DigitLemmas
-- for the loops over texts, step by step
pub mod TextSteps
-- for the lengths of texts and escapes: the code computes those that the rules of tokens name
pub mod TextLemmas
-- for texts that are closed: each is one, or stops at a NUL or at a `\` of no escape
pub mod TextPieces
-- for the rules of tokens, which leave no choice at the front of bytes
pub mod OnePiece
-- and none for a whole source: it has one list of tokens, or one fault
pub mod OneLexing
-- every source has tokens or a fault
pub mod SomeLexing
-- for the law that bytes are one list of tokens, or have one fault
pub mod OneOrFault
-- ---- symbols
-- for what texts mean, as the code computes it
pub mod TextMeaning
-- for the loops that turn tokens into symbols
pub mod SymbolLemmas
-- for the rules of symbols, which leave no choice: tokens have one list of them
pub mod OneReading
-- and every list of tokens has one
pub mod SomeReading
-- ---- the loops of the parser, each turn a step of a reader, and what they put together
-- for loops up to a closing sign
pub mod UntilSteps
-- for loops over items with a separator between
pub mod SeparatedSteps
-- for the loop over an aggregate
pub mod AggregateSteps
-- for what is read where no symbol is left
pub mod NoSymbols
-- for number words, by the integer as the code counts it
pub mod NumberSteps
-- for words that are joined by dots
pub mod NameSteps
-- ---- what a reader owes its language: each way of building readers of readers keeps it
-- what a reader owes, and what follows for readers built of others
pub mod ReaderLaws
-- of nothing, of one symbol, of one of two languages
pub mod Parts
-- of one thing after another
pub mod Compose
-- for all of them: the symbols that words begin with
pub mod Heads
-- of one symbol that passes a test
pub mod SymbolTests
-- of repetition
pub mod Loops
-- of what a rule forbids, by the symbol that stands first
pub mod Guards
-- of one of many languages, by the kind of that symbol
pub mod KindLemmas
-- of items up to the end
pub mod ToEnd
-- of readers that may go further: they answer the same, but where they came to the end of how far they might go
pub mod Growing
-- ---- the lines that statements are made of: their readers keep what they owe
-- names and types
pub mod NameLaws
-- aggregates
pub mod AggregateLaws
-- floating literals, and the integers among them
pub mod FloatLaws
-- integers, constants and options
pub mod OptionLaws
-- ranges, and texts that are UTF-8
pub mod RangeLaws
-- what the strict grammar takes, the other takes
pub mod StrictLines
-- ---- worked out by the rules
-- small sources with their tokens and faults, and the integers of number words
mod Rows
