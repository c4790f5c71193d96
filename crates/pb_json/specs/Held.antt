-- What is read of the fields of the types that have a form of their own.
use Rattle.std.specs.Prelude.{ℕ, ℤ, pos, List, [], ◌∷◌}
use Rattle.std.specs.Option.{option_map_or}
use Rattle.pb_schema.specs.Scalar.{Scalar, int32, int64, uint32, uint64, boolean, float, double, enum, text, bytes}
use Rattle.pb_value.specs.Data.{Datum, scalar, message, Datums, no_datums, datum, Holding, one, list, map, Fields, get_field}

-- INTEGERS

abbrev pub integer_of_scalar : Scalar → ℤ
integer_of_scalar (int32 z) = z
integer_of_scalar (int64 z) = z
integer_of_scalar (uint32 n) = pos 0
integer_of_scalar (uint64 n) = pos 0
integer_of_scalar (boolean b) = pos 0
integer_of_scalar (float n) = pos 0
integer_of_scalar (double n) = pos 0
integer_of_scalar (enum z) = pos 0
integer_of_scalar (text s) = pos 0
integer_of_scalar (bytes s) = pos 0

abbrev pub integer_of : Datum → ℤ
integer_of (scalar x) = integer_of_scalar x
integer_of (message b) = pos 0

abbrev pub integer_held : Holding → ℤ
integer_held (one d) = integer_of d
integer_held (list ds) = pos 0
integer_held (map es) = pos 0

-- the signed integer in the field of a number, and 0 where there is none
abbrev pub integer_at : ℕ → Fields → ℤ
integer_at n fs = option_map_or integer_held (get_field n fs) (pos 0)

-- STRINGS

abbrev pub string_of_scalar : Scalar → List ℕ
string_of_scalar (int32 z) = []
string_of_scalar (int64 z) = []
string_of_scalar (uint32 n) = []
string_of_scalar (uint64 n) = []
string_of_scalar (boolean b) = []
string_of_scalar (float n) = []
string_of_scalar (double n) = []
string_of_scalar (enum z) = []
string_of_scalar (text s) = s
string_of_scalar (bytes s) = []

abbrev pub string_of : Datum → List ℕ
string_of (scalar x) = string_of_scalar x
string_of (message b) = []

abbrev pub strings_of : Datums → List (List ℕ)
strings_of no_datums = []
strings_of (datum d ds) = string_of d ∷ strings_of ds

abbrev pub strings_held : Holding → List (List ℕ)
strings_held (one d) = []
strings_held (list ds) = strings_of ds
strings_held (map es) = []

-- the strings of the list in the field of a number
abbrev pub strings_at : ℕ → Fields → List (List ℕ)
strings_at n fs = option_map_or strings_held (get_field n fs) []

-- the string in the field of a number, and the empty one where there is none
abbrev pub string_held : Holding → List ℕ
string_held (one d) = string_of d
string_held (list ds) = []
string_held (map es) = []

abbrev pub string_at : ℕ → Fields → List ℕ
string_at n fs = option_map_or string_held (get_field n fs) []

-- BYTES

abbrev pub bytes_of_scalar : Scalar → List ℕ
bytes_of_scalar (int32 z) = []
bytes_of_scalar (int64 z) = []
bytes_of_scalar (uint32 n) = []
bytes_of_scalar (uint64 n) = []
bytes_of_scalar (boolean b) = []
bytes_of_scalar (float n) = []
bytes_of_scalar (double n) = []
bytes_of_scalar (enum z) = []
bytes_of_scalar (text s) = []
bytes_of_scalar (bytes s) = s

abbrev pub bytes_of : Datum → List ℕ
bytes_of (scalar x) = bytes_of_scalar x
bytes_of (message b) = []

abbrev pub bytes_held : Holding → List ℕ
bytes_held (one d) = bytes_of d
bytes_held (list ds) = []
bytes_held (map es) = []

-- the bytes in the field of a number, and none where there is none
abbrev pub bytes_at : ℕ → Fields → List ℕ
bytes_at n fs = option_map_or bytes_held (get_field n fs) []
