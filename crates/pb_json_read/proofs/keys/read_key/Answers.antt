use Rattle.pb_json_read.proofs.keys.read_key.Goals as goal

pub returns-in-Int32 : goal.returns-in-Int32
returns-in-Int32 c = rw (c.in-Int32.is) (rw c.as_bytes-characters.ensures.value at c.int32_key.ensures)

pub returns-in-Sint32 : goal.returns-in-Sint32
returns-in-Sint32 c = rw (c.in-Sint32.is) (rw c.as_bytes-characters.ensures.value at c.int32_key-in-Sint32.ensures)

pub returns-in-Sfixed32 : goal.returns-in-Sfixed32
returns-in-Sfixed32 c = rw (c.in-Sfixed32.is) (rw c.as_bytes-characters.ensures.value at c.int32_key-in-Sfixed32.ensures)

pub returns-in-Int64 : goal.returns-in-Int64
returns-in-Int64 c = rw (c.in-Int64.is) (rw c.as_bytes-characters.ensures.value at c.int64_key.ensures)

pub returns-in-Sint64 : goal.returns-in-Sint64
returns-in-Sint64 c = rw (c.in-Sint64.is) (rw c.as_bytes-characters.ensures.value at c.int64_key-in-Sint64.ensures)

pub returns-in-Sfixed64 : goal.returns-in-Sfixed64
returns-in-Sfixed64 c = rw (c.in-Sfixed64.is) (rw c.as_bytes-characters.ensures.value at c.int64_key-in-Sfixed64.ensures)

pub returns-in-Uint32 : goal.returns-in-Uint32
returns-in-Uint32 c = rw (c.in-Uint32.is) (rw c.as_bytes-characters.ensures.value at c.uint32_key.ensures)

pub returns-in-Fixed32 : goal.returns-in-Fixed32
returns-in-Fixed32 c = rw (c.in-Fixed32.is) (rw c.as_bytes-characters.ensures.value at c.uint32_key-in-Fixed32.ensures)

pub returns-in-Uint64 : goal.returns-in-Uint64
returns-in-Uint64 c = rw (c.in-Uint64.is) (rw c.as_bytes-characters.ensures.value at c.uint64_key.ensures)

pub returns-in-Fixed64 : goal.returns-in-Fixed64
returns-in-Fixed64 c = rw (c.in-Fixed64.is) (rw c.as_bytes-characters.ensures.value at c.uint64_key-in-Fixed64.ensures)

pub returns-in-Bool : goal.returns-in-Bool
returns-in-Bool c = rw (c.in-Bool.is) (rw c.as_bytes-characters.ensures.value at c.bool_key.ensures)
