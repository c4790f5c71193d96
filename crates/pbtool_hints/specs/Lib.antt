-- lines, one after another
pub mod Lines
-- names that are near another one
pub mod Near
