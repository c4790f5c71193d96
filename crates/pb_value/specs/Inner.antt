-- The messages inside a message: which one the number of a field names, or a number with an index in a list or a key of a map.
use Rattle.std.specs.Prelude.{ℕ, zero, suc, Option, Some, None, IsSomeAnd, option_and_then}
use Rattle.pb_schema.specs.Types.{Types, message_fields, field_numbered}
use Rattle.pb_schema.specs.Scalar.{Scalar}
use Rattle.pb_schema.specs.Kinds.{message_of_kind}
use Rattle.pb_value.specs.Data.{Datum, scalar, message, Datums, no_datums, datum, Holding, one, list, map, fields_of, get_field, get_entry}
use Rattle.pb_value.specs.WellFormed.{IsWellFormed}
use Rattle.pb_value.specs.Dynamic.{Dynamic}

-- the value of a content that is one
abbrev pub only_datum : Holding → Option Datum
only_datum (one d) = Some d
only_datum (list ds) = None
only_datum (map es) = None

abbrev pub nth_datum : Datums → ℕ → Option Datum
nth_datum no_datums i = None
nth_datum (datum d ds) zero = Some d
nth_datum (datum d ds) (suc i) = nth_datum ds i

-- the value at an index, counted from 0, of a content that is a list
abbrev pub datum_at : ℕ → Holding → Option Datum
datum_at i (one d) = None
datum_at i (list ds) = nth_datum ds i
datum_at i (map es) = None

-- the value under a key of a content that is a map
abbrev pub datum_under : Scalar → Holding → Option Datum
datum_under x (one d) = None
datum_under x (list ds) = None
datum_under x (map es) = get_entry x es

-- the message type that the kind of the field of number n names
abbrev pub type_named : Types → ℕ → ℕ → Option ℕ
type_named pool m n = option_and_then (λ f. message_of_kind f.kind) (field_numbered n (message_fields pool m))

-- a value as a message of a type, where it is one
abbrev pub as_message : Types → Option ℕ → Datum → Option Dynamic
as_message pool None d = None
as_message pool (Some m) (scalar x) = None
as_message pool (Some m) (message b) = Some (record { pool = pool; kind = m; body = b })

-- of what the field of number n holds, the value that `pick` finds, as a message of the type that the field's kind names
abbrev pub inner_message : (Holding → Option Datum) → ℕ → Dynamic → Option Dynamic
inner_message pick n v =
    option_and_then (λ d. as_message v.pool (type_named v.pool v.kind n) d) (option_and_then pick (get_field n (fields_of v.body)))

-- a value that is a message is a well-formed one of a type
abbrev pub IsPart : Types → Option ℕ → Datum → Type 0
IsPart pool m (scalar x) = Unit {0}
IsPart pool m (message b) = IsSomeAnd m (λ k. IsWellFormed pool k b)
