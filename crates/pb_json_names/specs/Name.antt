-- The name that a field of a descriptor set is given in JSON (descriptor.proto, `FieldDescriptorProto.json_name`). The pool by which sets are read
-- does not declare this field, so that it is among the unknown records.
use Rattle.std.specs.Prelude.{ℕ, ℤ, pos, negsuc, List, [], ◌∷◌, length, Bool, not, ◌==◌, ◌&&◌, if◌then◌else◌, Option, None, Some, option_and_then}
use Rattle.std.specs.Option.{option_or}
use Rattle.std.specs.Str.{bytes_eq, is_utf8}
use Rattle.pb_wire.specs.Record.{Payload, varint, fixed64, len, group, fixed32, Record}
use Rattle.pb_value.specs.Data.{Datum, scalar, message, unknown_of}
use Rattle.pb_json.specs.JsonNames.{lower_camel}
use Rattle.pb_descr_message.specs.Held.{fields_in, name_at}

abbrev pub unknown_in : Datum → List Record
unknown_in (message m) = unknown_of m
unknown_in (scalar x) = []

abbrev pub bytes_of : Payload → Option (List ℕ)
bytes_of (len s) = Some s
bytes_of (varint n) = None
bytes_of (fixed64 n) = None
bytes_of (group g) = None
bytes_of (fixed32 n) = None

abbrev pub bytes_if : Bool → Payload → Option (List ℕ)
bytes_if is p = if is then bytes_of p else None

-- the payload of the last record of a number that has a length
abbrev pub last_bytes : ℕ → List Record → Option (List ℕ)
last_bytes n [] = None
last_bytes n (r ∷ rs) = option_or (last_bytes n rs) (bytes_if (r.number == n) r.payload)

-- a name is a string that is not empty
abbrev pub is_name : List ℕ → Bool
is_name s = not (length s == 0) && is_utf8 s

-- bytes are a name, and another than the declared one in lowerCamelCase
abbrev pub other_name : List ℕ → List ℕ → Option (List ℕ)
other_name declared s = if is_name s && not (bytes_eq (lower_camel declared) s) then Some s else None

-- the name that a field is given
abbrev pub name_in : Datum → Option (List ℕ)
name_in d = option_and_then (other_name (name_at 1 (fields_in d))) (last_bytes 10 (unknown_in d))

abbrev pub natural : ℤ → Option ℕ
natural (pos n) = Some n
natural (negsuc n) = None
