-- what the parts of numbers and of strings accept
pub mod NumberLemmas
pub mod StringLemmas
-- the machine reads the texts of the grammar, and no others
pub mod Forward
pub mod ForwardValues
pub mod Backward
-- where the machine stops, and what follows from that
pub mod Deeper
pub mod Stops
pub mod TextLaws
pub mod FaultLaws
-- the machine along the bytes that the code reads
pub mod Steps
pub mod ReadingSteps
pub mod ViewLemmas
-- small cases, which pin the definitions
mod Rows
