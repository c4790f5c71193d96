pub mod Lines
pub mod Verdict
