pub mod Lengths
pub mod Reads
pub mod Listed
pub mod Entries
