-- for the loops that write and read a packed list, number by number
mod PackedReads
