-- Values, which go into the part that holds their record.
pub mod Put
pub mod PayloadValue
pub mod Run
pub mod Puts
