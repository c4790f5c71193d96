-- ---- what a field is given
pub mod Name
-- ---- what a set gives
pub mod Names
pub mod Adding
