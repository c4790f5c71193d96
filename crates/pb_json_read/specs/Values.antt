-- What a JSON value is read as where the field's kind is no message (ProtoJSON format, "JSON representation").
use Rattle.std.specs.Prelude.{◌≡◌, ℕ, ℤ, pos, ◌<◌, ◌^◌, List, Bool, FitsSigned}
use Rattle.std.specs.Float.{binary32, binary64}
use Rattle.std.specs.Int.{w32, w64}
use Rattle.pb_schema.specs.declared.types.Kind.{Kind}
use Rattle.pb_schema.specs.declared.types.Kind.TheVariants as kind
use Rattle.pb_schema.specs.Types.{Types}
use Rattle.pb_schema.specs.Scalar.{int32, int64, uint32, uint64, boolean, float, double, enum, text, bytes}
use Rattle.pb_value.specs.Data.{Datum, scalar}
use Rattle.pb_json_text.specs.Json.{Json}
use Rattle.pb_json_read.specs.Scalars.{IsInteger, IsFloat, IsBool, IsString, IsBytes, IsEnumValue, IsClosedEnumValue}

abbrev pub IsInt32 : Json → Datum → Type 0
IsInt32 j d = (z : ℤ) × (IsInteger j z × FitsSigned w32 z) × (d ≡ scalar (int32 z))

abbrev pub IsInt64 : Json → Datum → Type 0
IsInt64 j d = (z : ℤ) × (IsInteger j z × FitsSigned w64 z) × (d ≡ scalar (int64 z))

abbrev pub IsUint32 : Json → Datum → Type 0
IsUint32 j d = (n : ℕ) × (IsInteger j (pos n) × (n < 2 ^ 32)) × (d ≡ scalar (uint32 n))

abbrev pub IsUint64 : Json → Datum → Type 0
IsUint64 j d = (n : ℕ) × (IsInteger j (pos n) × (n < 2 ^ 64)) × (d ≡ scalar (uint64 n))

abbrev pub IsBoolValue : Json → Datum → Type 0
IsBoolValue j d = (b : Bool) × IsBool j b × (d ≡ scalar (boolean b))

abbrev pub IsFloatValue : Json → Datum → Type 0
IsFloatValue j d = (n : ℕ) × IsFloat binary32 j n × (d ≡ scalar (float n))

abbrev pub IsDouble : Json → Datum → Type 0
IsDouble j d = (n : ℕ) × IsFloat binary64 j n × (d ≡ scalar (double n))

abbrev pub IsText : Json → Datum → Type 0
IsText j d = (s : List ℕ) × IsString j s × (d ≡ scalar (text s))

abbrev pub IsBytesValue : Json → Datum → Type 0
IsBytesValue j d = (s : List ℕ) × IsBytes j s × (d ≡ scalar (bytes s))

abbrev pub IsEnumOf : Types → ℕ → Json → Datum → Type 0
IsEnumOf pool e j d = (z : ℤ) × IsEnumValue pool e j z × (d ≡ scalar (enum z))

abbrev pub IsClosedEnumOf : Types → ℕ → Json → Datum → Type 0
IsClosedEnumOf pool e j d = (z : ℤ) × IsClosedEnumValue pool e j z × (d ≡ scalar (enum z))

-- the JSON value means a value of the kind, and this one
abbrev pub IsScalar : Types → Kind → Json → Datum → Type 0
IsScalar pool kind.Int32 j d = IsInt32 j d
IsScalar pool kind.Sint32 j d = IsInt32 j d
IsScalar pool kind.Sfixed32 j d = IsInt32 j d
IsScalar pool kind.Int64 j d = IsInt64 j d
IsScalar pool kind.Sint64 j d = IsInt64 j d
IsScalar pool kind.Sfixed64 j d = IsInt64 j d
IsScalar pool kind.Uint32 j d = IsUint32 j d
IsScalar pool kind.Fixed32 j d = IsUint32 j d
IsScalar pool kind.Uint64 j d = IsUint64 j d
IsScalar pool kind.Fixed64 j d = IsUint64 j d
IsScalar pool kind.Bool j d = IsBoolValue j d
IsScalar pool kind.Float j d = IsFloatValue j d
IsScalar pool kind.Double j d = IsDouble j d
IsScalar pool kind.Text j d = IsText j d
IsScalar pool kind.Bytes j d = IsBytesValue j d
IsScalar pool (kind.Enum e) j d = IsEnumOf pool e.0 j d
IsScalar pool (kind.ClosedEnum e) j d = IsClosedEnumOf pool e.0 j d
IsScalar pool (kind.Message _) j d = ⊥
IsScalar pool (kind.Group _) j d = ⊥
