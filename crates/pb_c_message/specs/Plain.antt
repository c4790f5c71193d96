-- Values as C is given them: a kind, by the number of a type in descriptor.proto, and a number.
use Rattle.std.specs.Prelude.{ℕ, List, [], length, Bool, true, false}
use Rattle.std.specs.Int.{cast_unsigned, w64}
use Rattle.pb_schema.specs.Scalar.{Scalar, int32, int64, uint32, uint64, boolean, float, double, enum, text, bytes}
use Rattle.pb_value.specs.Data.{Datum, scalar, message}
use Rattle.pb_place.specs.At.{Seen, whole, single, elements, pairs}
use Rattle.pb_place.specs.Ask.{datums_count, entries_count}
use Rattle.pb_c_message.specs.declared.value.PlainValue.{PlainValue}

abbrev pub plain : ℕ → ℕ → PlainValue
plain k n = record { kind = k; number = n }

abbrev pub bit : Bool → ℕ
bit true = 1
bit false = 0

-- an integer is given by the 64 bits of its two's complement, a string and bytes by how many bytes they have
abbrev pub scalar_plain : Scalar → PlainValue
scalar_plain (double n) = plain 1 n
scalar_plain (float n) = plain 2 n
scalar_plain (int64 z) = plain 3 (cast_unsigned w64 z)
scalar_plain (uint64 n) = plain 4 n
scalar_plain (int32 z) = plain 5 (cast_unsigned w64 z)
scalar_plain (boolean b) = plain 8 (bit b)
scalar_plain (text s) = plain 9 (length s)
scalar_plain (bytes s) = plain 12 (length s)
scalar_plain (uint32 n) = plain 13 n
scalar_plain (enum z) = plain 14 (cast_unsigned w64 z)

-- no message that is well formed is without a type
abbrev pub datum_plain : Datum → PlainValue
datum_plain (scalar x) = scalar_plain x
datum_plain (message m) = plain 11 0

-- a message by the number of its type, a list and a map by how many values they have
abbrev pub seen_plain : Seen → PlainValue
seen_plain (whole v) = plain 11 v.kind
seen_plain (single d) = datum_plain d
seen_plain (elements ds) = plain 19 (datums_count ds)
seen_plain (pairs es) = plain 20 (entries_count es)

-- the bytes of a string or of bytes; of others none
abbrev pub scalar_bytes : Scalar → List ℕ
scalar_bytes (text s) = s
scalar_bytes (bytes s) = s
scalar_bytes (double n) = []
scalar_bytes (float n) = []
scalar_bytes (int64 z) = []
scalar_bytes (uint64 n) = []
scalar_bytes (int32 z) = []
scalar_bytes (boolean b) = []
scalar_bytes (uint32 n) = []
scalar_bytes (enum z) = []
