-- The message types that have a JSON form of their own, by their full names (ProtoJSON format, "JSON representation").
use Rattle.std.specs.Prelude.{ℕ, List, Bool, true, false, ◌||◌, is_some, codes, if◌then◌else◌}
use Rattle.std.specs.Option.{option_map_or}
use Rattle.std.specs.Str.{bytes_eq}
use Rattle.pb_schema.specs.declared.types.Kind.{Kind}
use Rattle.pb_schema.specs.Types.{Types}
use Rattle.pb_schema.specs.Kinds.{enum_of_kind}
use Rattle.pb_schema.specs.Names.{message_names, enum_names, name_at}
use Rattle.pb_schema.specs.Tables.{place_of}
use Rattle.pb_json.specs.declared.well_known.WellKnown.{WellKnown}
use Rattle.pb_json.specs.declared.well_known.WellKnown.TheVariants.{Other, Wrapper, Struct, ListValue, Value, Timestamp, Duration, FieldMask, Any}

abbrev pub is_wrapper_name : List ℕ → Bool
is_wrapper_name name =
    bytes_eq name (codes "google.protobuf.DoubleValue") || bytes_eq name (codes "google.protobuf.FloatValue")
    || bytes_eq name (codes "google.protobuf.Int64Value") || bytes_eq name (codes "google.protobuf.UInt64Value")
    || bytes_eq name (codes "google.protobuf.Int32Value") || bytes_eq name (codes "google.protobuf.UInt32Value")
    || bytes_eq name (codes "google.protobuf.BoolValue") || bytes_eq name (codes "google.protobuf.StringValue")
    || bytes_eq name (codes "google.protobuf.BytesValue")

abbrev pub well_known_named : List ℕ → WellKnown
well_known_named name =
    if is_wrapper_name name then Wrapper else if bytes_eq name (codes "google.protobuf.Struct") then Struct
    else if bytes_eq name (codes "google.protobuf.ListValue") then ListValue else if bytes_eq name (codes "google.protobuf.Value") then Value
    else if bytes_eq name (codes "google.protobuf.Timestamp") then Timestamp else if bytes_eq name (codes "google.protobuf.Duration") then Duration
    else if bytes_eq name (codes "google.protobuf.FieldMask") then FieldMask else if bytes_eq name (codes "google.protobuf.Any") then Any
    else Other

-- a type without a form of its own
abbrev pub is_plain : WellKnown → Bool
is_plain Other = true
is_plain Wrapper = false
is_plain Struct = false
is_plain ListValue = false
is_plain Value = false
is_plain Timestamp = false
is_plain Duration = false
is_plain FieldMask = false
is_plain Any = false

-- what form the message type at an index has
abbrev pub well_known : Types → ℕ → WellKnown
well_known pool m = well_known_named (name_at (message_names pool) m)

-- the enum whose one value means null
abbrev pub is_null_enum : Types → Kind → Bool
is_null_enum pool k = option_map_or (λ e. bytes_eq (name_at (enum_names pool) e) (codes "google.protobuf.NullValue")) (enum_of_kind k) false

-- some type of the pool is `google.protobuf.Any`
abbrev pub declares_any : Types → Bool
declares_any pool = is_some (place_of (codes "google.protobuf.Any") (message_names pool))
