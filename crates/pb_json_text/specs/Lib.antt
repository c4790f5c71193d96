pub mod Json
pub mod Grammar
pub mod View
pub mod Fault
pub mod CauseName
pub mod Texts
-- for private functions alone
pub mod Loops
