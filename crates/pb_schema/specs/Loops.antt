-- Facts that only loops need: no public contract rests on them.
pub mod Members
