pub mod Contexts
pub mod Here
pub mod Payloads
pub mod Judging
pub mod Whole
