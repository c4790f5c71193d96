-- for `hexadecimal::read_hexadecimal`: a text byte by byte
pub mod HexadecimalLemmas
