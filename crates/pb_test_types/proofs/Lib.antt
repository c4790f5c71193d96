pub mod NumberLemmas
pub mod TextLemmas
pub mod EntryLemmas
mod WordRows
mod TypeRows
