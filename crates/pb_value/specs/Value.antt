-- The value of records, field by field, each from the records that fit it (encoding guide, "Optional and Repeated", "Last One Wins", "Oneofs", "Maps").
use Rattle.std.specs.Prelude.{ℕ, zero, suc, List, [], ◌∷◌, Bool, true, false, cond, ◌==◌, Option, Some, None}
use Rattle.std.specs.Prelude.{option_map, option_and_then, unwrap_or, if◌then◌else◌, filter, flat_map, fold}
use Rattle.std.specs.Prelude as prelude
use Rattle.std.specs.List.{list_all}
use Rattle.pb_wire.specs.Record.{Record}
use Rattle.pb_wire.specs.Inside.{records_inside}
use Rattle.pb_schema.specs.declared.types.Kind.{Kind}
use Rattle.pb_schema.specs.declared.types.Shape.{Shape}
use Rattle.pb_schema.specs.declared.types.Shape.TheVariants as shape
use Rattle.pb_schema.specs.Types.{FieldView, Types, message_fields}
use Rattle.pb_schema.specs.Scalar.{Scalar, is_default}
use Rattle.pb_schema.specs.Kinds.{message_of_kind, default_of}
use Rattle.pb_schema.specs.Packed.{elements}
use Rattle.pb_schema.specs.Oneofs.{members}
use Rattle.pb_schema.specs.Fits.{fits, fits_any, fitting}
use Rattle.pb_schema.specs.Closed.{known, unknown}
use Rattle.pb_schema.specs.Context.{key_field, value_field}
use Rattle.pb_value.specs.Data.{Datum, scalar, message, datums_of, no_entries, put_entry, Holding}
use Rattle.pb_value.specs.Data.{one, list, map, Fields, no_fields, put_some, Message, body, empty}

abbrev pub last_of : {A : Type 0} → List A → Option A
last_of [] = None
last_of (x ∷ []) = Some x
last_of (x ∷ y ∷ ys) = last_of (y ∷ ys)

-- the longest end of a list whose elements all pass
abbrev pub last_run : {A : Type 0} → (A → Bool) → List A → List A
last_run p [] = []
last_run p (x ∷ xs) = if list_all p (x ∷ xs) then x ∷ xs else last_run p xs

-- the elements of records, joined
abbrev pub all_elements : Kind → List Record → List Scalar
all_elements k rs = flat_map (λ r. elements k r.payload) rs

-- the records inside records, joined
abbrev pub joined : List Record → List Record
joined rs = flat_map (λ r. records_inside r.payload) rs

-- a value to be kept: with implicit presence, none that is a default
abbrev pub unless_default : Datum → Option Holding
unless_default (scalar x) = if is_default x then None else Some (one (scalar x))
unless_default (message m) = Some (one (message m))

-- a list or map to be kept: none that is empty
abbrev pub unless_no_elements : List Datum → Option Holding
unless_no_elements [] = None
unless_no_elements (d ∷ ds) = Some (list (datums_of (d ∷ ds)))

abbrev pub unless_no_entries : List (Scalar × Datum) → Option Holding
unless_no_entries [] = None
unless_no_entries (e ∷ es) = Some (map (fold (λ ds d. put_entry d.0 d.1 ds) no_entries (e ∷ es)))

-- Where a message of a type is the value of records by `value`.
module _ (value : ℕ → List Record → Message) where
  -- The records that count for a field of some: those that fit it. For a member of a oneof, of all that fit a member the unbroken run of its own at the end.
  abbrev pub counting_as : Shape → List FieldView → FieldView → List Record → List Record
  counting_as (shape.OneofMember o) fs f rs = last_run (fits f) (filter (fits_any (members o fs)) rs)
  counting_as shape.Implicit fs f rs = fitting f rs
  counting_as shape.Explicit fs f rs = fitting f rs
  counting_as (shape.List packed) fs f rs = fitting f rs
  counting_as (shape.Map key) fs f rs = fitting f rs

  abbrev pub counting : List FieldView → FieldView → List Record → List Record
  counting fs f rs = counting_as f.shape fs f rs

  -- one value: of a scalar the last element, of a message the records of all payloads joined
  abbrev pub one_value : Kind → List Record → Option Datum
  one_value k rs = by_type (message_of_kind k) rs
    where
      by_type : Option ℕ → List Record → Option Datum
      by_type None rs = option_map scalar (last_of (all_elements k rs))
      by_type (Some m) [] = None
      by_type (Some m) (r ∷ rs) = Some (message (value m (joined (r ∷ rs))))

  -- the values of a list: all elements joined, or the message of each payload
  abbrev pub list_values : Kind → List Record → List Datum
  list_values k rs = by_type (message_of_kind k)
    where
      by_type : Option ℕ → List Datum
      by_type None = prelude.map scalar (all_elements k rs)
      by_type (Some m) = prelude.map (λ r. message (value m (records_inside r.payload))) rs

  -- the default of a kind; for a message the empty one
  abbrev pub missing : Kind → Datum
  missing k = by_type (message_of_kind k)
    where
      by_type : Option ℕ → Datum
      by_type None = scalar (default_of k)
      by_type (Some m) = message empty

  -- a map entry's key and value
  abbrev pub entry_key : Kind → List Record → Scalar
  entry_key k rs = unwrap_or (last_of (all_elements k (fitting (key_field k) rs))) (default_of k)

  abbrev pub entry_value : Kind → List Record → Datum
  entry_value k rs = unwrap_or (one_value k (fitting (value_field k) rs)) (missing k)

  abbrev pub entry_of : Kind → Kind → Record → Scalar × Datum
  entry_of key k r = (entry_key key (records_inside r.payload), entry_value k (records_inside r.payload))

  -- what a field holds, of the records that count for it
  abbrev pub held_as : Shape → Kind → List Record → Option Holding
  held_as shape.Implicit k rs = option_and_then unless_default (one_value k rs)
  held_as shape.Explicit k rs = option_map one (one_value k rs)
  held_as (shape.OneofMember o) k rs = option_map one (one_value k rs)
  held_as (shape.List _) k rs = unless_no_elements (list_values k rs)
  held_as (shape.Map key) k rs = unless_no_entries (prelude.map (entry_of key k) rs)

  abbrev pub held : FieldView → List Record → Option Holding
  held f rs = held_as f.shape f.kind rs

  -- what some fields hold, in a type that has all of these
  abbrev pub fields_held : List FieldView → List FieldView → List Record → Fields
  fields_held all [] rs = no_fields
  fields_held all (f ∷ fs) rs = put_some f.number (held f (counting all f rs)) (fields_held all fs rs)

  -- a message: what each field holds of the records that count, and those that don't
  abbrev pub body_of : Types → List FieldView → List Record → Message
  body_of pool fs rs = body (fields_held fs fs (known pool fs rs)) (unknown pool fs rs)

-- The value of records, as a message of at most this many levels. A message that is nested deeper is read as the empty message; no input
-- that is decoded nests that deep, since decoding refuses what is below level 100.
unfoldable pub value_within : Types → ℕ → ℕ → List Record → Message
value_within pool zero m rs = empty
value_within pool (suc levels) m rs = body_of (value_within pool levels) pool (message_fields pool m) rs

-- the value of records, as a message of a type; the levels are 0 to 100
unfoldable pub value : Types → ℕ → List Record → Message
value pool m rs = value_within pool 101 m rs
