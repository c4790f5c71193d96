-- The JSON value of a message (ProtoJSON format, "JSON representation"): an object with a member for each field that is set, or what the type has
-- as its own form.
use Rattle.std.specs.Prelude.{ℕ, zero, suc, ℤ, List, [], Bool, true, false, Option, Some, None, option_map, codes, decimal, from_bits, if◌then◌else◌}
use Rattle.std.specs.Float.{Float, Format, binary32, binary64, nan, inf, fin}
use Rattle.std.specs.Fmt.{signed_decimal}
use Rattle.std.specs.Option.{option_map_or}
use Rattle.base64.specs.Engines.{standard}
use Rattle.base64.specs.GeneralPurpose.{encode_of}
use Rattle.pb_schema.specs.declared.types.Kind.{Kind}
use Rattle.pb_schema.specs.Types.{FieldView, Types, message_fields, field_numbered}
use Rattle.pb_schema.specs.Kinds.{enum_of_kind, message_of_kind}
use Rattle.pb_schema.specs.EnumValues.{enum_values, value_name}
use Rattle.pb_schema.specs.Scalar.{Scalar, int32, int64, uint32, uint64, boolean, float, double, enum, text, bytes}
use Rattle.pb_value.specs.Data.{Datum, scalar, message, Datums, no_datums, datum, Entries, no_entries, entry}
use Rattle.pb_value.specs.Data.{Holding, one, list, map, Fields, no_fields, field, Message, body}
use Rattle.pb_value.specs.Dynamic.{Dynamic}
use Rattle.pb_value.specs.Oneof.{default_value}
use Rattle.pb_json.specs.declared.form.Names.{Names}
use Rattle.pb_json.specs.declared.well_known.WellKnown.{WellKnown}
use Rattle.pb_json.specs.declared.well_known.WellKnown.TheVariants.{Other, Wrapper, Struct, ListValue, Value, Timestamp, Duration, FieldMask, Any}
use Rattle.pb_json.specs.Json.{Json, null, truth, number, real, plain, string, instant, array, object, Elements, no_elements, element, Members, no_members, member}
use Rattle.pb_json.specs.JsonNames.{member_name}
use Rattle.pb_json.specs.JsonText.{bool_text}
use Rattle.pb_json.specs.WellKnown.{well_known, is_null_enum}
use Rattle.pb_json.specs.Held.{integer_at, strings_at}
use Rattle.pb_json.specs.Anys.{any_json}
use Rattle.pb_json.specs.Times.{is_instant, is_span, span_text}
use Rattle.pb_json.specs.Masks.{mask_text}

-- SCALARS

abbrev pub infinity_word : Bool → List ℕ
infinity_word false = codes "Infinity"
infinity_word true = codes "-Infinity"

-- a float: a number, or the word for what is none
abbrev pub float_json : Format → Float → Json
float_json f nan = plain (codes "NaN")
float_json f (inf negative) = plain (infinity_word negative)
float_json f (fin negative m e) = real f (fin negative m e)

abbrev pub named_json : Option (List ℕ) → ℤ → Json
named_json None z = number (signed_decimal z)
named_json (Some name) z = string name

-- the values of the enum that a kind names, each a name and a number
abbrev pub names_of_kind : Types → Kind → List (List ℕ × ℤ)
names_of_kind pool k = option_map_or (λ e. enum_values pool e) (enum_of_kind k) []

-- an enum's value: the name of the first with its number, or else the number
abbrev pub enum_json : Types → Kind → ℤ → Json
enum_json pool k z = if is_null_enum pool k then null else named_json (value_name z (names_of_kind pool k)) z

-- a value of a kind: 64-bit integers are strings, bytes are base64 with padding
abbrev pub scalar_json : Types → Kind → Scalar → Json
scalar_json pool k (int32 z) = number (signed_decimal z)
scalar_json pool k (int64 z) = plain (signed_decimal z)
scalar_json pool k (uint32 n) = number (decimal n)
scalar_json pool k (uint64 n) = plain (decimal n)
scalar_json pool k (boolean b) = truth b
scalar_json pool k (float n) = float_json binary32 (from_bits binary32 n)
scalar_json pool k (double n) = float_json binary64 (from_bits binary64 n)
scalar_json pool k (enum z) = enum_json pool k z
scalar_json pool k (text s) = string s
scalar_json pool k (bytes s) = plain (encode_of standard s)

-- a map's key as a name; it is no float, enum or bytes
abbrev pub key_name : Scalar → List ℕ
key_name (int32 z) = signed_decimal z
key_name (int64 z) = signed_decimal z
key_name (uint32 n) = decimal n
key_name (uint64 n) = decimal n
key_name (boolean b) = bool_text b
key_name (float n) = []
key_name (double n) = []
key_name (enum z) = []
key_name (text s) = s
key_name (bytes s) = []

-- MESSAGES

-- a value that is no message; of a message nothing
abbrev pub scalar_or_null : Types → Kind → Datum → Json
scalar_or_null pool k (scalar x) = scalar_json pool k x
scalar_or_null pool k (message b) = null

abbrev pub default_json : Types → Kind → Option Datum → Json
default_json pool k None = null
default_json pool k (Some d) = scalar_or_null pool k d

-- the default of the field that a wrapper has
abbrev pub wrapper_default : Types → List FieldView → Json
wrapper_default pool all = option_map_or (λ f. default_json pool f.kind (default_value f.kind)) (field_numbered 1 all) null

-- what a type with a form of its own is where no field is set
abbrev pub absent_json : Types → WellKnown → List FieldView → Json
absent_json pool Wrapper all = wrapper_default pool all
absent_json pool Struct all = object no_members
absent_json pool ListValue all = array no_elements
absent_json pool Value all = null
absent_json pool Timestamp all = null
absent_json pool Duration all = null
absent_json pool FieldMask all = null
absent_json pool Any all = null
absent_json pool Other all = null

-- a member before others
abbrev pub maybe_member : Option (List ℕ × Json) → Members → Members
maybe_member None ms = ms
maybe_member (Some m) ms = member m.0 m.1 ms

-- seconds and nanoseconds as a point in time; nothing out of range
abbrev pub instant_json : ℤ → ℤ → Json
instant_json s n = if is_instant s n then instant s n else null

-- as a length of time
abbrev pub span_json : ℤ → ℤ → Json
span_json s n = if is_span s n then plain (span_text s n) else null

abbrev pub timestamp_json : Fields → Json
timestamp_json fs = instant_json (integer_at 1 fs) (integer_at 2 fs)

abbrev pub duration_json : Fields → Json
duration_json fs = span_json (integer_at 1 fs) (integer_at 2 fs)

abbrev pub mask_json : Fields → Json
mask_json fs = string (mask_text (strings_at 1 fs))

-- a message of a form, by its fields, by these as members, by what the first of them holds, and by its JSON as an Any
abbrev pub in_form : WellKnown → Fields → Members → Json → Json → Json
in_form Other fs ms only any = object ms
in_form Wrapper fs ms only any = only
in_form Struct fs ms only any = only
in_form ListValue fs ms only any = only
in_form Value fs ms only any = only
in_form Timestamp fs ms only any = timestamp_json fs
in_form Duration fs ms only any = duration_json fs
in_form FieldMask fs ms only any = mask_json fs
in_form Any fs ms only any = any

-- by what messages one level further in are as JSON
module _ (pool : Types) (names : Names) (Inside : ℕ → Message → Json) where
  abbrev mutual
    pub datum_json : Kind → Datum → Json
    datum_json k (scalar x) = scalar_json pool k x
    datum_json k (message b) = option_map_or (λ m. Inside m b) (message_of_kind k) null

    pub elements_json : Kind → Datums → Elements
    elements_json k no_datums = no_elements
    elements_json k (datum d ds) = element (datum_json k d) (elements_json k ds)

    pub entries_json : Kind → Entries → Members
    entries_json k no_entries = no_members
    entries_json k (entry x d es) = member (key_name x) (datum_json k d) (entries_json k es)

    pub holding_json : Kind → Holding → Json
    holding_json k (one d) = datum_json k d
    holding_json k (list ds) = array (elements_json k ds)
    holding_json k (map es) = object (entries_json k es)

    -- a member for each field of a message of a type, by rising number
    pub fields_json : ℕ → Fields → Members
    fields_json m no_fields = no_members
    fields_json m (field n h fs) =
        maybe_member (option_map (λ f. (member_name names m f, holding_json f.kind h)) (field_numbered n (message_fields pool m))) (fields_json m fs)

    -- a wrapper, a Struct, a Value and a ListValue are what their one field holds
    pub only_json : WellKnown → List FieldView → Fields → Json
    only_json w all no_fields = absent_json pool w all
    only_json w all (field n h fs) = option_map_or (λ f. holding_json f.kind h) (field_numbered n all) null

  -- a message of a type
  abbrev pub message_here : ℕ → Message → Json
  message_here m (body fs us) =
      in_form (well_known pool m) fs (fields_json m fs) (only_json (well_known pool m) (message_fields pool m) fs)
      (any_json pool Inside fs)

-- a message of a type, of at most this many levels; nothing of one that is nested deeper
unfoldable pub message_json : Types → Names → ℕ → ℕ → Message → Json
message_json pool names zero m b = null
message_json pool names (suc levels) m b = message_here pool names (message_json pool names levels) m b

-- the levels are 0 to 100; the message in an Any is one level further in
unfoldable pub json_of : Names → Dynamic → Json
json_of names m = message_json m.pool names 101 m.kind m.body
