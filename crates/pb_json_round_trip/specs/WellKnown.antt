-- The fields of the types that have a form of their own, as Google's files declare them (wrappers.proto, struct.proto, timestamp.proto,
-- duration.proto, field_mask.proto, any.proto).
use Rattle.std.specs.Prelude.{◌≡◌, ℕ, List, [], ◌∷◌, true, false, codes}
use Rattle.pb_schema.specs.declared.types.EnumId.{EnumId}
use Rattle.pb_schema.specs.declared.types.Kind.{Kind}
use Rattle.pb_schema.specs.declared.types.Kind.TheVariants as kind
use Rattle.pb_schema.specs.declared.types.MessageId.{MessageId}
use Rattle.pb_schema.specs.declared.types.Shape.{Shape}
use Rattle.pb_schema.specs.declared.types.Shape.TheVariants as shape
use Rattle.pb_schema.specs.Types.{FieldView, Types}
use Rattle.pb_json.specs.declared.well_known.WellKnown.{WellKnown}
use Rattle.pb_json.specs.declared.well_known.WellKnown.TheVariants.{Other, Wrapper, Struct, ListValue, Value, Timestamp, Duration, FieldMask, Any}
use Rattle.pb_json.specs.WellKnown.{is_null_enum, well_known}

abbrev pub declared : List ℕ → ℕ → Kind → Shape → FieldView
declared name n k s = record { name = name; number = n; kind = k; shape = s }

-- the kinds that the wrappers have
abbrev pub IsWrapped : Kind → Type 0
IsWrapped kind.Double = Unit {0}
IsWrapped kind.Float = Unit {0}
IsWrapped kind.Int64 = Unit {0}
IsWrapped kind.Uint64 = Unit {0}
IsWrapped kind.Int32 = Unit {0}
IsWrapped kind.Uint32 = Unit {0}
IsWrapped kind.Bool = Unit {0}
IsWrapped kind.Text = Unit {0}
IsWrapped kind.Bytes = Unit {0}
IsWrapped _ = ⊥

-- of such a kind: `value = 1`
abbrev pub wrapped : Kind → FieldView
wrapped k = declared (codes "value") 1 k shape.Implicit

-- `int64 seconds = 1` and `int32 nanos = 2`
abbrev pub seconds : FieldView
seconds = declared (codes "seconds") 1 kind.Int64 shape.Implicit

abbrev pub nanos : FieldView
nanos = declared (codes "nanos") 2 kind.Int32 shape.Implicit

-- `repeated string paths = 1`
abbrev pub paths : FieldView
paths = declared (codes "paths") 1 kind.Text (shape.List false)

-- `map<string, Value> fields = 1`
abbrev pub entries : MessageId → FieldView
entries v = declared (codes "fields") 1 (kind.Message v) (shape.Map kind.Text)

-- `repeated Value values = 1`
abbrev pub values : MessageId → FieldView
values v = declared (codes "values") 1 (kind.Message v) (shape.List false)

-- the one oneof of a Value: a `NullValue`, a `double`, a `string`, a `bool`, a `Struct` and a `ListValue`
abbrev pub choices : EnumId → MessageId → MessageId → List FieldView
choices e s l =
    declared (codes "null_value") 1 (kind.Enum e) (shape.OneofMember 0) ∷ declared (codes "number_value") 2 kind.Double (shape.OneofMember 0)
    ∷ declared (codes "string_value") 3 kind.Text (shape.OneofMember 0) ∷ declared (codes "bool_value") 4 kind.Bool (shape.OneofMember 0)
    ∷ declared (codes "struct_value") 5 (kind.Message s) (shape.OneofMember 0)
    ∷ declared (codes "list_value") 6 (kind.Message l) (shape.OneofMember 0) ∷ []

-- `string type_url = 1` and `bytes value = 2`
abbrev pub type_url : FieldView
type_url = declared (codes "type_url") 1 kind.Text shape.Implicit

abbrev pub any_value : FieldView
any_value = declared (codes "value") 2 kind.Bytes shape.Implicit

-- A type of a form has the fields that Google's file declares for it. A type without a form of its own may have any fields.
abbrev pub IsAsDeclared : Types → WellKnown → List FieldView → Type 0
IsAsDeclared pool Other all = Unit {0}
IsAsDeclared pool Wrapper all = (k : Kind) × IsWrapped k × (all ≡ wrapped k ∷ [])
IsAsDeclared pool Timestamp all = all ≡ seconds ∷ nanos ∷ []
IsAsDeclared pool Duration all = all ≡ seconds ∷ nanos ∷ []
IsAsDeclared pool FieldMask all = all ≡ paths ∷ []
IsAsDeclared pool Struct all = (v : MessageId) × (well_known pool v.0 ≡ Value) × (all ≡ entries v ∷ [])
IsAsDeclared pool ListValue all = (v : MessageId) × (well_known pool v.0 ≡ Value) × (all ≡ values v ∷ [])
IsAsDeclared pool Value all =
    (e : EnumId) × (s : MessageId) × (l : MessageId) × (is_null_enum pool (kind.Enum e) ≡ true) × (well_known pool s.0 ≡ Struct)
    × (well_known pool l.0 ≡ ListValue) × (all ≡ choices e s l)
IsAsDeclared pool Any all = all ≡ type_url ∷ any_value ∷ []
