-- Types with a form of their own: small cases, worked out by the definitions.
use Rattle.std.proofs.Common.{◌≡◌, ℕ, List, [], ◌∷◌, true, false, Some, None, Ok, Err, refl, codes}
use Rattle.std.specs.Prelude.{pos}
use Rattle.pb_schema.specs.declared.types.Kind.{Kind}
use Rattle.pb_schema.specs.declared.types.Kind.TheVariants as kind
use Rattle.pb_schema.specs.declared.types.Shape.{Shape}
use Rattle.pb_schema.specs.declared.types.Shape.TheVariants as shape
use Rattle.pb_schema.specs.Types.{FieldView, MessageView, Types}
use Rattle.pb_schema.specs.Scalar.{boolean, enum, int32, int64, text}
use Rattle.pb_value.specs.Data.{scalar, message, one, list, datum, no_datums, body, field, no_fields, empty}
use Rattle.pb_json.specs.Given.{none_given}
use Rattle.pb_json_text.specs.Json as json
use Rattle.pb_json_read.specs.declared.rules.JsonRules.TheVariants.{Strict}
use Rattle.pb_json_read.specs.declared.error.JsonReadCause.TheVariants.{BadValue}
use Rattle.pb_json_read.specs.Faults.{fault}
use Rattle.pb_json_read.specs.Forms.{time_parts}
use Rattle.pb_json_read.specs.Reads.{ReadsMessage}
use Rattle.pb_json_read.specs.Steps.{nothing, is_absent}
use Rattle.pb_json_read.specs.WellKnown.{field_for, string_meant, time_fields, paths_field, texts}

abbrev the_field : ℕ → Kind → Shape → FieldView
the_field n k s = record { name = codes "f"; number = n; kind = k; shape = s }

abbrev the_type : List ℕ → List FieldView → MessageView
the_type name fields = record { name = name; file = 0; parent = None; fields = fields; oneofs = [] }

abbrev a_value : Kind
a_value = kind.Message (record { 0 = 1 })

abbrev seconds : FieldView
seconds = the_field 1 kind.Int64 shape.Implicit

abbrev nanos : FieldView
nanos = the_field 2 kind.Int32 shape.Implicit

abbrev paths : FieldView
paths = the_field 1 kind.Text (shape.List false)

abbrev pool : Types
pool = record {
  files = record { name = codes "s"; package_name = codes "google.protobuf"; imports = []; proto2 = false } ∷ [];
  messages =
      the_type (codes "BoolValue") (the_field 1 kind.Bool shape.Implicit ∷ [])
      ∷ the_type (codes "Value")
      (the_field 1 (kind.Enum (record { 0 = 0 })) (shape.OneofMember 0) ∷ the_field 6 (kind.Message (record { 0 = 2 })) (shape.OneofMember 0) ∷ [])
      ∷ the_type (codes "ListValue") (the_field 1 a_value (shape.List false) ∷ [])
      ∷ [];
  enums = record { name = codes "NullValue"; file = 0; parent = None; values = (codes "NULL_VALUE", pos 0) ∷ [] } ∷ [];
}

-- ---- which fields

a_number : field_for (json.number (codes "0")) ≡ 2
a_number = refl

an_object : field_for (json.object json.no_members) ≡ 5
an_object = refl

no_string : string_meant {A = ℕ} (λ s. Some 1) json.null ≡ None
no_string = refl

both_fields : time_fields (nanos ∷ seconds ∷ []) ≡ Some (seconds, nanos)
both_fields = refl

one_field : time_fields (seconds ∷ []) ≡ None
one_field = refl

another_kind : time_fields (the_field 1 kind.Uint64 shape.Implicit ∷ nanos ∷ []) ≡ None
another_kind = refl

a_list_of_seconds : time_fields (the_field 1 kind.Int64 (shape.List true) ∷ nanos ∷ []) ≡ None
a_list_of_seconds = refl

the_paths : paths_field (paths ∷ []) ≡ Some paths
the_paths = refl

one_path : paths_field (the_field 1 kind.Text shape.Explicit ∷ []) ≡ None
one_path = refl

two_paths : texts (codes "a" ∷ codes "b" ∷ []) ≡ datum (scalar (text (codes "a"))) (datum (scalar (text (codes "b"))) no_datums)
two_paths = refl

a_second : (time_parts seconds nanos (record { seconds = pos 1; nanos = pos 0 })).message ≡ body (field 1 (one (scalar (int64 (pos 1)))) no_fields) []
a_second = refl

a_nanosecond : (time_parts seconds nanos (record { seconds = pos 0; nanos = pos 1 })).message ≡ body (field 2 (one (scalar (int32 (pos 1)))) no_fields) []
a_nanosecond = refl

no_time : time_parts seconds nanos (record { seconds = pos 0; nanos = pos 0 }) ≡ nothing
no_time = refl

-- ---- null

null_is_a_value : is_absent pool shape.Explicit a_value json.null ≡ false
null_is_a_value = refl

null_is_no_bool : is_absent pool shape.Explicit (kind.Message (record { 0 = 0 })) json.null ≡ true
null_is_no_bool = refl

null_is_no_list : is_absent pool (shape.List false) a_value json.null ≡ true
null_is_no_list = refl

-- ---- messages: `true` and `false` as a BoolValue, and a string, which is none; `null` and `[]` as a Value

wrapped : ReadsMessage pool Strict none_given 0 4 (json.boolean true) (Ok (body (field 1 (one (scalar (boolean true))) no_fields) []))
wrapped = (Ok (Some (one (scalar (boolean true)))), (Ok (Some (scalar (boolean true))), (true, refl, refl), refl), refl)

wrapped_default : ReadsMessage pool Strict none_given 0 4 (json.boolean false) (Ok empty)
wrapped_default = (Ok (Some (one (scalar (boolean false)))), (Ok (Some (scalar (boolean false))), (false, refl, refl), refl), refl)

not_wrapped : ReadsMessage pool Strict none_given 0 4 (json.string (codes "true")) (Err (fault 4 BadValue))
not_wrapped = (Err (fault 4 BadValue), (Err (fault 4 BadValue), (λ d h. h.1, refl, refl), refl), refl)

null_value : ReadsMessage pool Strict none_given 1 4 json.null (Ok (body (field 1 (one (scalar (enum (pos 0)))) no_fields) []))
null_value = (Ok (Some (one (scalar (enum (pos 0))))), (Ok (Some (scalar (enum (pos 0)))), (pos 0, (refl, refl), refl), refl), refl)

a_list_value : ReadsMessage pool Strict none_given 1 4 (json.array json.no_elements) (Ok (body (field 6 (one (message empty)) no_fields) []))
a_list_value = (
  Ok (Some (one (message empty))),
  (Ok (Some (message empty)), (Ok empty, (Ok (Some (list no_datums)), (Ok no_datums, refl, refl), refl), refl), refl),
  refl,
)

no_field_for_it : ReadsMessage pool Strict none_given 1 4 (json.boolean true) (Err (fault 4 BadValue))
no_field_for_it = refl

no_list : ReadsMessage pool Strict none_given 2 4 (json.object json.no_members) (Err (fault 4 BadValue))
no_list = (Err (fault 4 BadValue), (Err (fault 4 BadValue), refl, refl), refl)
