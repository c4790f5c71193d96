pub mod PoolSeal
pub mod MessageSeal
pub mod DecoderSeal
pub mod Held
