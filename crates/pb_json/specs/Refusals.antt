-- Which messages have no JSON form: why, and the numbers of the fields that lead to what has none.
use Rattle.std.specs.Prelude.{ℕ, zero, suc, List, [], ◌∷◌, Bool, Option, Some, None, option_map, from_bits, if◌then◌else◌}
use Rattle.std.specs.Float.{binary64, float_is_finite}
use Rattle.std.specs.Option.{option_map_or, option_or}
use Rattle.pb_schema.specs.declared.types.Kind.{Kind}
use Rattle.pb_schema.specs.Types.{FieldView, Types, message_fields, field_numbered}
use Rattle.pb_schema.specs.Kinds.{message_of_kind}
use Rattle.pb_schema.specs.Scalar.{Scalar, int32, int64, uint32, uint64, boolean, float, double, enum, text, bytes}
use Rattle.pb_value.specs.Data.{Datum, scalar, message, Datums, no_datums, datum, Entries, no_entries, entry}
use Rattle.pb_value.specs.Data.{Holding, one, list, map, Fields, no_fields, field, Message, body}
use Rattle.pb_value.specs.Dynamic.{Dynamic}
use Rattle.pb_json.specs.declared.well_known.WellKnown.{WellKnown}
use Rattle.pb_json.specs.declared.well_known.WellKnown.TheVariants.{Other, Wrapper, Struct, ListValue, Value, Timestamp, Duration, FieldMask, Any}
use Rattle.pb_json.specs.declared.error.JsonCause.{JsonCause}
use Rattle.pb_json.specs.declared.error.JsonCause.TheVariants as cause
use Rattle.pb_json.specs.WellKnown.{well_known}
use Rattle.pb_json.specs.Held.{integer_at, strings_at}
use Rattle.pb_json.specs.Anys.{any_message, is_unset}
use Rattle.pb_json.specs.Times.{is_instant, is_span}
use Rattle.pb_json.specs.Masks.{are_paths}

pub record Refused : Type 0 where
  pub path : List ℕ
  pub cause : JsonCause

abbrev pub here : JsonCause → Refused
here c = record { path = []; cause = c }

-- below the field of a number
abbrev pub below : ℕ → Refused → Refused
below n r = record r { path = n ∷ r.path }

-- JSON has no NaN and no infinity, and a Value's number is no string
abbrev pub double_cause : ℕ → Option JsonCause
double_cause n = if float_is_finite (from_bits binary64 n) then None else Some cause.NotFinite

abbrev pub number_cause : Scalar → Option JsonCause
number_cause (double n) = double_cause n
number_cause (int32 z) = None
number_cause (int64 z) = None
number_cause (uint32 n) = None
number_cause (uint64 n) = None
number_cause (boolean b) = None
number_cause (float n) = None
number_cause (enum z) = None
number_cause (text s) = None
number_cause (bytes s) = None

abbrev pub datum_cause : Datum → Option JsonCause
datum_cause (scalar x) = number_cause x
datum_cause (message b) = None

abbrev pub held_cause : Holding → Option JsonCause
held_cause (one d) = datum_cause d
held_cause (list ds) = None
held_cause (map es) = None

-- a Value holds a kind of value, and no number that JSON hasn't
abbrev pub value_cause : Fields → Option JsonCause
value_cause no_fields = Some cause.NoKind
value_cause (field n h fs) = held_cause h

abbrev pub unless : Bool → JsonCause → Option JsonCause
unless good c = if good then None else Some c

abbrev pub timestamp_cause : Fields → Option JsonCause
timestamp_cause fs = unless (is_instant (integer_at 1 fs) (integer_at 2 fs)) cause.OutOfRange

abbrev pub duration_cause : Fields → Option JsonCause
duration_cause fs = unless (is_span (integer_at 1 fs) (integer_at 2 fs)) cause.OutOfRange

abbrev pub mask_cause : Fields → Option JsonCause
mask_cause fs = unless (are_paths (strings_at 1 fs)) cause.BadPath

-- what is wrong with a message itself, apart from what it holds
abbrev pub own_cause : WellKnown → Fields → Option JsonCause
own_cause Value fs = value_cause fs
own_cause Timestamp fs = timestamp_cause fs
own_cause Duration fs = duration_cause fs
own_cause FieldMask fs = mask_cause fs
own_cause Any fs = None
own_cause Other fs = None
own_cause Wrapper fs = None
own_cause Struct fs = None
own_cause ListValue fs = None

-- an Any that holds something has the form of a message that its bytes encode; the way there leads through the field of the bytes
abbrev pub any_refused : Types → (ℕ → Message → Option Refused) → Fields → Option Refused
any_refused pool Inside fs =
    if is_unset fs then None
    else option_map_or (λ x. option_map (below 2) (Inside x.0 x.1)) (any_message pool fs) (Some (here cause.Unsupported))

abbrev pub any_or_fields : WellKnown → Option Refused → Option Refused → Option Refused
any_or_fields Any any fields = any
any_or_fields Other any fields = fields
any_or_fields Wrapper any fields = fields
any_or_fields Struct any fields = fields
any_or_fields ListValue any fields = fields
any_or_fields Value any fields = fields
any_or_fields Timestamp any fields = fields
any_or_fields Duration any fields = fields
any_or_fields FieldMask any fields = fields

-- by what is refused of messages one level further in
module _ (pool : Types) (Inside : ℕ → Message → Option Refused) where
  abbrev mutual
    pub datum_refused : Kind → Datum → Option Refused
    datum_refused k (scalar x) = None
    datum_refused k (message b) = option_map_or (λ m. Inside m b) (message_of_kind k) None

    pub datums_refused : Kind → Datums → Option Refused
    datums_refused k no_datums = None
    datums_refused k (datum d ds) = option_or (datum_refused k d) (datums_refused k ds)

    pub entries_refused : Kind → Entries → Option Refused
    entries_refused k no_entries = None
    entries_refused k (entry x d es) = option_or (datum_refused k d) (entries_refused k es)

    pub holding_refused : Kind → Holding → Option Refused
    holding_refused k (one d) = datum_refused k d
    holding_refused k (list ds) = datums_refused k ds
    holding_refused k (map es) = entries_refused k es

    -- the first of the fields, by rising number
    pub fields_refused : List FieldView → Fields → Option Refused
    fields_refused all no_fields = None
    fields_refused all (field n h fs) =
        option_or (option_map (below n) (option_map_or (λ f. holding_refused f.kind h) (field_numbered n all) None)) (fields_refused all fs)

  -- the message itself, and then what it holds
  abbrev pub refused_here : ℕ → Message → Option Refused
  refused_here m (body fs us) =
      option_or (option_map here (own_cause (well_known pool m) fs))
      (any_or_fields (well_known pool m) (any_refused pool Inside fs) (fields_refused (message_fields pool m) fs))

-- a message of at most this many levels; one that is nested deeper, as only messages in an Any can be, has no form
unfoldable pub message_refused : Types → ℕ → ℕ → Message → Option Refused
message_refused pool zero m b = Some (here cause.Unsupported)
message_refused pool (suc levels) m b = refused_here pool (message_refused pool levels) m b

-- the first part of a message that has no JSON form; the levels are 0 to 100
unfoldable pub refused : Dynamic → Option Refused
refused m = message_refused m.pool 101 m.kind m.body
