-- Messages that handles hold.
pub mod Places
pub mod Changes
pub mod Pairs
pub mod Listed
