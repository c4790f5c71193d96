-- the numeral that is scanned of a number's characters, and back
pub mod ScanLemmas
-- numbers that equal integers
pub mod WorthLemmas
-- numbers as floats
pub mod FloatLemmas
-- bytes of base64
pub mod BytesLemmas
-- keys of maps
pub mod KeyLemmas
-- digits as numbers
pub mod ClockLemmas
-- names between commas
pub mod PathLemmas
-- rows that pin the definitions
mod Rows
