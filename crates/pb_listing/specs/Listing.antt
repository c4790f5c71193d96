-- The listing of a message by its pool: the fields by rising number, the elements of a list and the entries of a map each by themselves, a
-- message or a group between two lines, and after the fields the unknown records.
use Rattle.std.specs.Prelude.{ℕ, ℤ, suc, List, [], ◌∷◌, ◌++◌, Bool, true, false, ◌==◌, ◌||◌, nat_lt, unwrap_or, codes, decimal, if◌then◌else◌}
use Rattle.std.specs.Fmt.{signed_decimal}
use Rattle.std.specs.Int.{to_be_bytes, w32, w64}
use Rattle.std.specs.List.{flat_map}
use Rattle.std.specs.Option.{option_map_or}
use Rattle.hex.specs.Hex.{encode_lower}
use Rattle.pb_wire.specs.Record.{Record}
use Rattle.pb_schema.specs.declared.types.Kind.{Kind}
use Rattle.pb_schema.specs.Types.{FieldView, Types, message_fields, field_numbered}
use Rattle.pb_schema.specs.Kinds.{enum_of_kind, message_of_kind}
use Rattle.pb_schema.specs.EnumValues.{enum_values, value_name}
use Rattle.pb_schema.specs.Scalar.{Scalar, int32, int64, uint32, uint64, boolean, float, double, enum, text, bytes}
use Rattle.pb_value.specs.Data.{Datum, scalar, message, Datums, no_datums, datum, Entries, no_entries, entry}
use Rattle.pb_value.specs.Data.{Holding, one, list, map, Fields, no_fields, field, Message, body}
use Rattle.pb_value.specs.Dynamic.{Dynamic}
use Rattle.pb_listing.specs.RawListing.{line, record_lines}

-- VALUES

-- a quote and a backslash
abbrev pub is_quoted : ℕ → Bool
is_quoted b = (b == 34) || (b == 92)

-- 0 to 31, and 127
abbrev pub is_control : ℕ → Bool
is_control b = nat_lt b 32 || (b == 127)

-- a byte of a string: after a backslash, by its digits, or as it is
abbrev pub text_byte : ℕ → List ℕ
text_byte b = if is_quoted b then codes "\\" ++ b ∷ [] else (if is_control b then codes "\\x" ++ encode_lower (b ∷ []) else b ∷ [])

abbrev pub bool_text : Bool → List ℕ
bool_text true = codes "true"
bool_text false = codes "false"

-- an enum's value: the name of the first with its number, or else the number
abbrev pub enum_text : List (List ℕ × ℤ) → ℤ → List ℕ
enum_text names z = unwrap_or (value_name z names) (signed_decimal z)

-- a value; an enum's is named by these
abbrev pub scalar_text : List (List ℕ × ℤ) → Scalar → List ℕ
scalar_text names (int32 z) = signed_decimal z
scalar_text names (int64 z) = signed_decimal z
scalar_text names (uint32 n) = decimal n
scalar_text names (uint64 n) = decimal n
scalar_text names (boolean b) = bool_text b
scalar_text names (float n) = codes "0x" ++ encode_lower (to_be_bytes w32 n)
scalar_text names (double n) = codes "0x" ++ encode_lower (to_be_bytes w64 n)
scalar_text names (enum z) = enum_text names z
scalar_text names (text s) = codes "\"" ++ flat_map text_byte s ++ codes "\""
scalar_text names (bytes s) = codes "h'" ++ encode_lower s ++ codes "'"

-- the values of the enum that a kind names, each a name and a number
abbrev pub names_of_kind : Types → Kind → List (List ℕ × ℤ)
names_of_kind pool k = option_map_or (λ e. enum_values pool e) (enum_of_kind k) []

-- a map's key after the name of the map: it is written like a value, and is no enum's
abbrev pub bracketed : Scalar → List ℕ
bracketed key = codes "[" ++ scalar_text [] key ++ codes "]"

-- LINES

-- the lines of unknown records, with a mark before the first of each
abbrev pub unknown_lines : ℕ → List Record → List ℕ
unknown_lines level [] = []
unknown_lines level (r ∷ rs) = record_lines (codes "? ") level r.number r.payload ++ unknown_lines level rs

module _ (pool : Types) where
  abbrev mutual
    -- the lines of a value of a kind, after its name
    pub datum_lines : ℕ → Kind → List ℕ → Datum → List ℕ
    datum_lines level k name (scalar x) = line level (name ++ codes ": " ++ scalar_text (names_of_kind pool k) x)
    datum_lines level k name (message b) =
        line level (name ++ codes " {") ++ option_map_or (λ m. message_lines (suc level) m b) (message_of_kind k) [] ++ line level (codes "}")

    -- the elements of a list
    pub each_lines : ℕ → Kind → List ℕ → Datums → List ℕ
    each_lines level k name no_datums = []
    each_lines level k name (datum d ds) = datum_lines level k name d ++ each_lines level k name ds

    -- the entries of a map
    pub entries_lines : ℕ → Kind → List ℕ → Entries → List ℕ
    entries_lines level k name no_entries = []
    entries_lines level k name (entry x d es) = datum_lines level k (name ++ bracketed x) d ++ entries_lines level k name es

    pub holding_lines : ℕ → FieldView → Holding → List ℕ
    holding_lines level f (one d) = datum_lines level f.kind f.name d
    holding_lines level f (list ds) = each_lines level f.kind f.name ds
    holding_lines level f (map es) = entries_lines level f.kind f.name es

    -- what the fields of these numbers hold
    pub fields_lines : ℕ → List FieldView → Fields → List ℕ
    fields_lines level all no_fields = []
    fields_lines level all (field n h fs) = option_map_or (λ f. holding_lines level f h) (field_numbered n all) [] ++ fields_lines level all fs

    -- the lines of a message of a type, at a level
    pub message_lines : ℕ → ℕ → Message → List ℕ
    message_lines level m (body fs us) = fields_lines level (message_fields pool m) fs ++ unknown_lines level us

-- the lines of a message at a level
abbrev pub listing_at : ℕ → Dynamic → List ℕ
listing_at level m = message_lines m.pool level m.kind m.body

abbrev pub listing : Dynamic → List ℕ
listing m = listing_at 0 m
