pub mod Tree
pub mod View
pub mod Fault
pub mod Steps
pub mod Grammar
pub mod Seen
pub mod Texts
