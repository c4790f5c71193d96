-- Tags, lengths and numbers at the start of bytes, and what comes next.
pub mod Number
pub mod Numbers
pub mod After
pub mod Reported
