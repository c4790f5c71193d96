-- What the fields of a message hold, by number. A message that has no such field, or holds something else there, has no value there.
use Rattle.std.specs.Prelude.{ℕ, ℤ, pos, List, [], ◌∷◌, Bool, false, Option, Some, None, unwrap_or, option_and_then, filter_map}
use Rattle.std.specs.Option.{option_map_or}
use Rattle.pb_schema.specs.Scalar.{int32, int64, uint32, uint64, boolean, float, double, enum, text, bytes}
use Rattle.pb_value.specs.Data.{Datum, scalar, message, Datums, no_datums, datum, Holding, one, list, map, Fields, no_fields, get_field, fields_of}

abbrev pub text_in : Datum → Option (List ℕ)
text_in (scalar (text s)) = Some s
text_in (scalar (int32 z)) = None
text_in (scalar (int64 z)) = None
text_in (scalar (uint32 n)) = None
text_in (scalar (uint64 n)) = None
text_in (scalar (boolean b)) = None
text_in (scalar (float n)) = None
text_in (scalar (double n)) = None
text_in (scalar (enum z)) = None
text_in (scalar (bytes s)) = None
text_in (message m) = None

abbrev pub int_in : Datum → Option ℤ
int_in (scalar (int32 z)) = Some z
int_in (scalar (int64 z)) = None
int_in (scalar (uint32 n)) = None
int_in (scalar (uint64 n)) = None
int_in (scalar (boolean b)) = None
int_in (scalar (float n)) = None
int_in (scalar (double n)) = None
int_in (scalar (enum z)) = None
int_in (scalar (text s)) = None
int_in (scalar (bytes s)) = None
int_in (message m) = None

abbrev pub bool_in : Datum → Option Bool
bool_in (scalar (boolean b)) = Some b
bool_in (scalar (int32 z)) = None
bool_in (scalar (int64 z)) = None
bool_in (scalar (uint32 n)) = None
bool_in (scalar (uint64 n)) = None
bool_in (scalar (float n)) = None
bool_in (scalar (double n)) = None
bool_in (scalar (enum z)) = None
bool_in (scalar (text s)) = None
bool_in (scalar (bytes s)) = None
bool_in (message m) = None

-- the fields of a message
abbrev pub fields_in : Datum → Fields
fields_in (message m) = fields_of m
fields_in (scalar x) = no_fields

abbrev pub one_held : Option Holding → Option Datum
one_held (Some (one d)) = Some d
one_held (Some (list ds)) = None
one_held (Some (map es)) = None
one_held None = None

abbrev pub datum_at : ℕ → Fields → Option Datum
datum_at n fs = one_held (get_field n fs)

abbrev pub elements : Datums → List Datum
elements no_datums = []
elements (datum d ds) = d ∷ elements ds

abbrev pub list_held : Option Holding → List Datum
list_held (Some (list ds)) = elements ds
list_held (Some (one d)) = []
list_held (Some (map es)) = []
list_held None = []

abbrev pub data_at : ℕ → Fields → List Datum
data_at n fs = list_held (get_field n fs)

abbrev pub text_at : ℕ → Fields → Option (List ℕ)
text_at n fs = option_and_then text_in (datum_at n fs)

abbrev pub int_at : ℕ → Fields → Option ℤ
int_at n fs = option_and_then int_in (datum_at n fs)

abbrev pub bool_at : ℕ → Fields → Option Bool
bool_at n fs = option_and_then bool_in (datum_at n fs)

-- the fields of a message that a field holds; without it none
abbrev pub inside_at : ℕ → Fields → Fields
inside_at n fs = option_map_or fields_in (datum_at n fs) no_fields

abbrev pub texts_at : ℕ → Fields → List (List ℕ)
texts_at n fs = filter_map text_in (data_at n fs)

abbrev pub ints_at : ℕ → Fields → List ℤ
ints_at n fs = filter_map int_in (data_at n fs)

-- a missing name or type is empty, a missing number 0, a missing mark false
abbrev pub name_at : ℕ → Fields → List ℕ
name_at n fs = unwrap_or (text_at n fs) []

abbrev pub number_at : ℕ → Fields → ℤ
number_at n fs = unwrap_or (int_at n fs) (pos 0)

abbrev pub mark_at : ℕ → Fields → Bool
mark_at n fs = unwrap_or (bool_at n fs) false
