pub mod Decls
pub mod Nests
pub mod One
pub mod TypeNumbers
pub mod View
