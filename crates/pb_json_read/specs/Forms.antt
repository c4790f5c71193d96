-- Messages of the types that have a form of their own, by how the parts of the JSON value are read (ProtoJSON format, "JSON representation").
use Rattle.std.specs.Prelude.{◌≡◌, ℕ, List, Bool, true, false, Option, Some, None}
use Rattle.pb_schema.specs.declared.types.Kind.{Kind}
use Rattle.pb_schema.specs.declared.types.Shape.{Shape}
use Rattle.pb_schema.specs.Types.{FieldView, Types, field_numbered, message_fields}
use Rattle.pb_schema.specs.Scalar.{int32, int64}
use Rattle.pb_value.specs.Data.{scalar, Datums, Entries, Holding, one, list, Message}
use Rattle.pb_json.specs.declared.well_known.WellKnown.{WellKnown}
use Rattle.pb_json.specs.declared.well_known.WellKnown.TheVariants.{Other, Wrapper, Struct, ListValue, Value, Timestamp, Duration, FieldMask, Any}
use Rattle.pb_json.specs.WellKnown.{well_known}
use Rattle.pb_json_scalars.specs.declared.times.Time.{Time}
use Rattle.pb_json_scalars.specs.Clock.{timestamp, duration}
use Rattle.pb_json_scalars.specs.Paths.{mask_paths}
use Rattle.pb_json_text.specs.Json.{Json}
use Rattle.pb_json_read.specs.declared.rules.JsonRules.{JsonRules}
use Rattle.pb_json_read.specs.WellKnown.{is_sole, field_for, string_meant, time_fields, paths_field, texts}
use Rattle.pb_json_read.specs.Steps.{Read, Made, NoValue, given, Parts, nothing, with_held, ReadsScalar, ReadsSingle, ReadsShape}

-- TIMES AND FIELD MASKS

-- seconds and nanoseconds in two fields, each of which is left out where it is a default
abbrev pub time_parts : FieldView → FieldView → Time → Parts
time_parts f g t =
    with_held g.shape g.number (Some (one (scalar (int32 t.nanos)))) (with_held f.shape f.number (Some (one (scalar (int64 t.seconds)))) nothing)

abbrev pub time_message : Option (FieldView × FieldView) → Option Time → Option Message
time_message (Some p) (Some t) = Some (time_parts p.0 p.1 t).message
time_message fields time = None

abbrev pub mask_message : Option FieldView → Option (List (List ℕ)) → Option Message
mask_message (Some f) (Some ps) = Some (with_held f.shape f.number (Some (list (texts ps))) nothing).message
mask_message field paths = None

-- WHAT ONE FIELD HOLDS

-- a message with one field, or no value where the type hasn't the field
abbrev pub ReadsAlone : Option FieldView → ℕ → (Shape → Kind → Read (Option Holding) → Type 0) → Read Message → Type 0
ReadsAlone None at Content o = NoValue at o
ReadsAlone (Some f) at Content o = Made (Content f.shape f.kind) (λ h. (with_held f.shape f.number h nothing).message) o

abbrev pub Where : {A : Type 0} → Bool → ℕ → (Read A → Type 0) → Read A → Type 0
Where true at Reads o = Reads o
Where false at Reads o = NoValue at o

module _ (pool : Types) (rules : JsonRules) (at : ℕ) (j : Json) (Mapped : Kind → Kind → Read Entries → Type 0) (Listed : Kind → Read Datums → Type 0) where
  -- what a field holds that is no message
  abbrev pub ReadsFlat : Shape → Kind → Read (Option Holding) → Type 0
  ReadsFlat s k o = ReadsShape s (ReadsScalar pool rules k at j) (Listed k) (λ key r. Mapped key k r) o

  -- a wrapper, a Struct and a ListValue are what their field 1 holds
  abbrev pub ReadsSole : ℕ → Read Message → Type 0
  ReadsSole m o = ReadsAlone (field_numbered 1 (message_fields pool m)) at ReadsFlat o

  abbrev pub ReadsNested : ℕ → Read Message → Type 0
  ReadsNested m o = Where (is_sole (well_known pool m)) at (ReadsSole m) o

  -- the same of a field that may be a Struct or a ListValue
  abbrev pub ReadsDeep : Shape → Kind → Read (Option Holding) → Type 0
  ReadsDeep s k o = ReadsShape s (ReadsSingle pool rules k at j ReadsNested) (Listed k) (λ key r. Mapped key k r) o

  -- a Value is what its field for this form of a JSON value holds
  abbrev pub ReadsDynamic : ℕ → Read Message → Type 0
  ReadsDynamic m o = ReadsAlone (field_numbered (field_for j) (message_fields pool m)) at ReadsDeep o

  -- a message of a form, where one of no form and an Any are read so
  abbrev pub ReadsForm : WellKnown → (Read Message → Type 0) → (Read Message → Type 0) → ℕ → Read Message → Type 0
  ReadsForm Other Plain Tagged m o = Plain o
  ReadsForm Wrapper Plain Tagged m o = ReadsSole m o
  ReadsForm Struct Plain Tagged m o = ReadsSole m o
  ReadsForm ListValue Plain Tagged m o = ReadsSole m o
  ReadsForm Value Plain Tagged m o = ReadsDynamic m o
  ReadsForm Timestamp Plain Tagged m o = o ≡ given at (time_message (time_fields (message_fields pool m)) (string_meant timestamp j))
  ReadsForm Duration Plain Tagged m o = o ≡ given at (time_message (time_fields (message_fields pool m)) (string_meant duration j))
  ReadsForm FieldMask Plain Tagged m o = o ≡ given at (mask_message (paths_field (message_fields pool m)) (string_meant mask_paths j))
  ReadsForm Any Plain Tagged m o = Tagged o
