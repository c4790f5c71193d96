-- What is answered of a place that C says.
use Rattle.std.specs.Prelude.{◌≡◌, ⊤, ℕ, List, map, Option, Some, None, option_and_then}
use Rattle.pb_schema.specs.Scalar.{int32, int64, uint32, uint64, boolean, float, double, enum, text, bytes}
use Rattle.pb_wire.specs.Spell.{shortest_records}
use Rattle.pb_schema.specs.Types.{message_fields}
use Rattle.pb_value.specs.Data.{Datum, scalar, message, fields_of, unknown_of}
use Rattle.pb_value.specs.Dynamic.{Dynamic}
use Rattle.pb_value.specs.Oneof.{member_set}
use Rattle.pb_place.specs.At.{Seen, whole, single, elements, pairs, at}
use Rattle.pb_place.specs.Ask.{numbers_of}
use Rattle.pb_place.specs.declared.step.PlaceStep.{PlaceStep}
use Rattle.pb_c_message.specs.declared.miss.Miss.{Miss}
use Rattle.pb_c_message.specs.declared.miss.Miss.TheVariants.{Absent, BadPlace, Memory}
use Rattle.pb_c_message.specs.declared.value.PlainValue.{PlainValue}
use Rattle.pb_c_message.specs.Plain.{seen_plain}
use Rattle.pb_c_message.specs.Places.{Bytes, places, step_view}

-- the steps say a place, and the message has this there
abbrev pub IsAt : List Bytes → List PlainValue → Dynamic → Option Seen → Type 0
IsAt keys place v x = (p : List PlaceStep) × (places keys place ≡ Some (map step_view p)) × (at p v ≡ x)

-- what is asked of what is there
abbrev pub Answers : {A : Type 0} → (Seen → Option A) → List Bytes → List PlainValue → Dynamic → Option A → Type 0
Answers asked keys place v a = (x : Option Seen) × IsAt keys place v x × (option_and_then asked x ≡ a)

-- the steps say nothing, or memory ran out
abbrev pub IsUnsaid : Type 0 → Miss → Type 0
IsUnsaid Bad Absent = ⊥
IsUnsaid Bad BadPlace = Bad
IsUnsaid Bad Memory = ⊤

-- there is none, the steps say no place, or memory ran out
abbrev pub IsMissed : Type 0 → List Bytes → List PlainValue → Miss → Type 0
IsMissed Nothing keys place Absent = Nothing
IsMissed Nothing keys place BadPlace = places keys place ≡ None
IsMissed Nothing keys place Memory = ⊤

abbrev pub plain_in : Seen → Option PlainValue
plain_in x = Some (seen_plain x)

abbrev pub datum_bytes : Datum → Option (List ℕ)
datum_bytes (scalar (text s)) = Some s
datum_bytes (scalar (bytes s)) = Some s
datum_bytes (scalar (double n)) = None
datum_bytes (scalar (float n)) = None
datum_bytes (scalar (int64 z)) = None
datum_bytes (scalar (uint64 n)) = None
datum_bytes (scalar (int32 z)) = None
datum_bytes (scalar (boolean b)) = None
datum_bytes (scalar (uint32 n)) = None
datum_bytes (scalar (enum z)) = None
datum_bytes (message m) = None

-- the bytes of a string or of bytes
abbrev pub bytes_in : Seen → Option (List ℕ)
bytes_in (whole v) = None
bytes_in (single d) = datum_bytes d
bytes_in (elements ds) = None
bytes_in (pairs es) = None

-- the numbers of the fields of a message
abbrev pub numbers_in : Seen → Option (List ℕ)
numbers_in (whole v) = Some (numbers_of (fields_of v.body))
numbers_in (single d) = None
numbers_in (elements ds) = None
numbers_in (pairs es) = None

-- the number of the member of a oneof that is set in a message
abbrev pub member_in : ℕ → Seen → Option ℕ
member_in o (whole v) = member_set (message_fields v.pool v.kind) o (fields_of v.body)
member_in o (single d) = None
member_in o (elements ds) = None
member_in o (pairs es) = None

-- the unknown records of a message, in their order, as they are written (encoding guide, "Message Structure")
abbrev pub unknown_in : Seen → Option (List ℕ)
unknown_in (whole v) = Some (shortest_records (unknown_of v.body))
unknown_in (single d) = None
unknown_in (elements ds) = None
unknown_in (pairs es) = None
