-- for each part that is put: bytes that go out through the buffer, one text after another
pub mod SinkLemmas
-- for bytes in hexadecimal, part by part
pub mod HexParts
-- for short numbers, digit by digit
pub mod Digits
-- for varints of two bytes and of three
pub mod Varints
-- rows for what went out
pub mod Rows
