-- What the types with a form of their own are read by (ProtoJSON format, "JSON representation"; struct.proto; wrappers.proto; timestamp.proto;
-- duration.proto; field_mask.proto).
use Rattle.std.specs.Prelude.{ℕ, pos, List, [], ◌∷◌, Bool, true, false, ◌&&◌, Option, Some, None, option_and_then, if◌then◌else◌}
use Rattle.pb_schema.specs.Types.{FieldView, field_numbered}
use Rattle.pb_schema.specs.Scalar.{Scalar, int32, int64, text}
use Rattle.pb_value.specs.Data.{scalar, Datums, no_datums, datum, one, list}
use Rattle.pb_value.specs.Judge.{has_shape, is_scalar_of}
use Rattle.pb_json.specs.declared.well_known.WellKnown.{WellKnown}
use Rattle.pb_json.specs.declared.well_known.WellKnown.TheVariants.{Other, Wrapper, Struct, ListValue, Value, Timestamp, Duration, FieldMask, Any}
use Rattle.pb_json_text.specs.Json.{Json, null, boolean, number, string, array, object}

-- `google.protobuf.Value`
abbrev pub is_dynamic : WellKnown → Bool
is_dynamic Value = true
is_dynamic Other = false
is_dynamic Wrapper = false
is_dynamic Struct = false
is_dynamic ListValue = false
is_dynamic Timestamp = false
is_dynamic Duration = false
is_dynamic FieldMask = false
is_dynamic Any = false

-- a type that is what its field 1 holds
abbrev pub is_sole : WellKnown → Bool
is_sole Wrapper = true
is_sole Struct = true
is_sole ListValue = true
is_sole Value = false
is_sole Other = false
is_sole Timestamp = false
is_sole Duration = false
is_sole FieldMask = false
is_sole Any = false

-- the field of a Value for each form of a JSON value
abbrev pub field_for : Json → ℕ
field_for null = 1
field_for (number s) = 2
field_for (string s) = 3
field_for (boolean b) = 4
field_for (object ms) = 5
field_for (array js) = 6

-- what the contents of a string mean; another JSON value means nothing
abbrev pub string_meant : {A : Type 0} → (List ℕ → Option A) → Json → Option A
string_meant of (string s) = of s
string_meant of null = None
string_meant of (boolean b) = None
string_meant of (number s) = None
string_meant of (array js) = None
string_meant of (object ms) = None

-- TIMES

-- a field of one value takes a scalar of this form
abbrev pub takes : FieldView → Scalar → Bool
takes f x = has_shape f.shape (one (scalar x)) && is_scalar_of f.kind x

-- the fields 1 and 2 for seconds and nanoseconds; nothing where the type declares no such fields
abbrev pub both_times : FieldView → FieldView → Option (FieldView × FieldView)
both_times f g = if takes f (int64 (pos 0)) && takes g (int32 (pos 0)) then Some (f, g) else None

abbrev pub time_fields : List FieldView → Option (FieldView × FieldView)
time_fields all = option_and_then (λ f. option_and_then (λ g. both_times f g) (field_numbered 2 all)) (field_numbered 1 all)

-- FIELD MASKS

-- the field 1 for paths
abbrev pub paths_field : List FieldView → Option FieldView
paths_field all =
    option_and_then (λ f. if has_shape f.shape (list no_datums) && is_scalar_of f.kind (text []) then Some f else None) (field_numbered 1 all)

abbrev pub texts : List (List ℕ) → Datums
texts [] = no_datums
texts (s ∷ ss) = datum (scalar (text s)) (texts ss)
