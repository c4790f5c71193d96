pub mod Machine
pub mod States
pub mod Escapes
pub mod Values
