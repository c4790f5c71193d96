-- buffers whose front is laid
pub mod Laid
-- what is reported of an error of decoding
pub mod Refusals
-- what is made of a message
pub mod Making
-- how many steps are reported of a fault
pub mod StepBounds
-- what is answered of a JSON text that is read
pub mod JsonReading
-- decoders and their parts
pub mod PartsLemmas
-- from what a decoder answers to what C is answered
pub mod Answered
-- rows for what is said of a decoder
mod Rows
