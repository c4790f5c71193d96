-- for `advance`: the bytes that are held after some were taken
pub mod HeldLemmas
