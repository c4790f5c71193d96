-- ---- JSON, apart from messages
pub mod Json
pub mod Times
pub mod JsonText
pub mod Given
pub mod JsonNames
pub mod Masks
-- ---- what messages are as JSON
pub mod WellKnown
pub mod Held
pub mod Encoded
pub mod Anys
pub mod Opening
pub mod Mapping
pub mod Refusals
-- ---- what the calls answer
pub mod CauseName
pub mod Answers
