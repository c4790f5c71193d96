pub mod NameHash
pub mod NameIndex
pub mod NameSets
