-- for `decode_pieces`: pieces that are received one by one are answered as their joining is
mod JoinedLemmas
