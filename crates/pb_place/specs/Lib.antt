pub mod At
pub mod Found
pub mod Ask
pub mod Replaced
pub mod Changed
pub mod Edits
pub mod ErrorName
