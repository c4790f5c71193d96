-- The names of causes, and how a fault shows.
use Rattle.std.specs.Prelude.{List, ◌++◌, ℕ, codes, decimal}
use Rattle.pb_json_text.specs.declared.fault.JsonCause.{JsonCause}
use Rattle.pb_json_text.specs.declared.fault.JsonCause.TheVariants.{UnexpectedByte, UnexpectedEnd, BadUtf8, TooDeep, OutOfMemory}

abbrev pub name_of : JsonCause → List ℕ
name_of UnexpectedByte = codes "UnexpectedByte"
name_of UnexpectedEnd = codes "UnexpectedEnd"
name_of BadUtf8 = codes "BadUtf8"
name_of TooDeep = codes "TooDeep"
name_of OutOfMemory = codes "OutOfMemory"

-- the byte, and the cause there
abbrev pub fault_text : ℕ → JsonCause → List ℕ
fault_text byte cause = codes "byte " ++ decimal byte ++ codes ": " ++ name_of cause
