-- The values of messages that show a break.
use Rattle.std.specs.Prelude.{◌≡◌, ◌≢◌, ◌≤◌, ℕ, ℤ, pos, negsuc, length, List, [], ◌∷◌, Bool, true, false, Option, Some, None, IsSomeAnd}
use Rattle.pb_wire.specs.Record.{len}
use Rattle.pb_wire.specs.Sound.{AreElements}
use Rattle.pb_schema.specs.declared.types.Kind.{Kind}
use Rattle.pb_schema.specs.declared.types.Kind.TheVariants as kind
use Rattle.pb_schema.specs.Types.{Types}
use Rattle.pb_schema.specs.Scalar.{Scalar, int32, int64, uint32, uint64, boolean, float, double, enum, text, bytes}
use Rattle.pb_schema.specs.declared.types.Shape.{Shape}
use Rattle.pb_schema.specs.Fits.{fits_shape}
use Rattle.pb_schema.specs.Kinds.{wire_type_of, is_packable, is_of_proto2, message_of_kind, closed_enum, default_of, read, written}
use Rattle.pb_schema.specs.Context.{element_of}
use Rattle.pb_schema.specs.Packed.{elements, element_bytes}
use Rattle.pb_value.specs.Data.{Datum, scalar, message, empty}
use Rattle.pb_value.specs.Judge.Forms.{is_default_datum}
use Rattle.pb_value.specs.WellFormed.{IsDatum, datum_declared}
use Rattle.pb_compat.specs.Scalars.{meaning}
use Rattle.pb_compat.specs.Fields.{is_map, keeps_others}
use Rattle.pb_compat.specs.Agrees.{IsSameValue}

-- a value of a kind that is no default: 1, true, the string `a`, the byte 255, a message without fields; a closed enum need not declare it
abbrev pub sample : Kind → Datum
sample kind.Double = scalar (double 1)
sample kind.Float = scalar (float 1)
sample kind.Int64 = scalar (int64 (pos 1))
sample kind.Uint64 = scalar (uint64 1)
sample kind.Int32 = scalar (int32 (pos 1))
sample kind.Fixed64 = scalar (uint64 1)
sample kind.Fixed32 = scalar (uint32 1)
sample kind.Bool = scalar (boolean true)
sample kind.Text = scalar (text (97 ∷ []))
sample kind.Bytes = scalar (bytes (255 ∷ []))
sample kind.Uint32 = scalar (uint32 1)
sample kind.Sfixed32 = scalar (int32 (pos 1))
sample kind.Sfixed64 = scalar (int64 (pos 1))
sample kind.Sint32 = scalar (int32 (pos 1))
sample kind.Sint64 = scalar (int64 (pos 1))
sample (kind.Enum e) = scalar (enum (pos 1))
sample (kind.ClosedEnum e) = scalar (enum (pos 1))
sample (kind.Message m) = message empty
sample (kind.Group m) = message empty

-- a value that other kinds of the same wire type read otherwise
abbrev pub edge : Kind → Datum
edge kind.Int64 = scalar (int64 (negsuc 2147483648))
edge kind.Sint64 = scalar (int64 (pos 2147483648))
edge kind.Sfixed64 = scalar (int64 (negsuc 0))
edge kind.Uint64 = scalar (uint64 18446744073709551615)
edge kind.Fixed64 = scalar (uint64 18446744073709551615)
edge kind.Int32 = scalar (int32 (negsuc 0))
edge kind.Sint32 = scalar (int32 (negsuc 0))
edge kind.Sfixed32 = scalar (int32 (negsuc 0))
edge kind.Uint32 = scalar (uint32 4294967295)
edge kind.Fixed32 = scalar (uint32 4294967295)
edge (kind.Enum e) = scalar (enum (negsuc 0))
edge kind.Double = sample kind.Double
edge kind.Float = sample kind.Float
edge kind.Bool = sample kind.Bool
edge kind.Text = sample kind.Text
edge kind.Bytes = sample kind.Bytes
edge (kind.ClosedEnum e) = sample (kind.ClosedEnum e)
edge (kind.Message m) = sample (kind.Message m)
edge (kind.Group m) = sample (kind.Group m)

-- the bytes of a string
abbrev pub octets_in : Datum → ℕ
octets_in (scalar (text s)) = length s
octets_in (scalar (bytes s)) = length s
octets_in (scalar (int32 z)) = 0
octets_in (scalar (int64 z)) = 0
octets_in (scalar (uint32 n)) = 0
octets_in (scalar (uint64 n)) = 0
octets_in (scalar (boolean b)) = 0
octets_in (scalar (float n)) = 0
octets_in (scalar (double n)) = 0
octets_in (scalar (enum z)) = 0
octets_in (message v) = 0

-- a message has no fields
abbrev pub IsBare : Datum → Type 0
IsBare (scalar x) = Unit {0}
IsBare (message v) = v ≡ empty

-- a value that a field of a kind can hold, of at most one byte if it is a string, and without fields if it is a message
pub record IsValue (old : Types) (a : Kind) (d : Datum) : Type 0 where
  pub value : IsDatum old a d
  pub declared : datum_declared old a d ≡ true
  pub small : octets_in d ≤ 1
  pub bare : IsBare d

-- no value of the new kind is the same
abbrev pub IsNeverSame : Types → Types → Kind → Kind → Datum → Type 0
IsNeverSame old new a b d = (e : Datum) → IsDatum new b e → datum_declared new b e ≡ true → IsSameValue old new a b d e → ⊥

-- what the new kind reads of a scalar means something else, and so does the new kind's default
abbrev pub IsReadOtherwise : Kind → Kind → Datum → Type 0
IsReadOtherwise a b (scalar x) = IsSomeAnd (read b (written a x)) (λ y. meaning y ≢ meaning x) × (meaning (default_of b) ≢ meaning x)
IsReadOtherwise a b (message v) = ⊥

-- records of the old kind fit no field of the new kind, but maps
abbrev pub IsUnfit : Kind → Kind → Type 0
IsUnfit a b = (t : Shape) → is_map t ≡ false → fits_shape t b (wire_type_of a) ≡ false

-- why the new kind does not hold the same: it has no such value, or reads another one, or its fields do not take such records
pub data IsUnlike (old new : Types) (a b : Kind) (d : Datum) : Type 0 where
  never : IsNeverSame old new a b d → IsUnlike old new a b d
  otherwise : IsReadOtherwise a b d → IsUnlike old new a b d
  apart : IsUnfit a b → IsUnlike old new a b d

-- the default of the new kind is a scalar that means something else
abbrev pub IsNoDefault : Kind → Datum → Type 0
IsNoDefault b (scalar x) = (message_of_kind b ≡ None) × (meaning (default_of b) ≢ meaning x)
IsNoDefault b (message v) = ⊥

-- the same of a key or a value of a map: where its record does not fit, the new type reads the default
pub data IsUnlikeEntry (old new : Types) (a b : Kind) (d : Datum) : Type 0 where
  never_entry : IsNeverSame old new a b d → IsUnlikeEntry old new a b d
  otherwise_entry : IsReadOtherwise a b d → IsUnlikeEntry old new a b d
  missing_entry : wire_type_of a ≢ wire_type_of b → IsNoDefault b d → IsUnlikeEntry old new a b d

-- what the new kind reads of a packed list of the scalar alone is not one value that means the same
abbrev pub IsReadOtherwisePacked : Kind → Kind → Datum → Type 0
IsReadOtherwisePacked a b (scalar x) = (y : Scalar) → elements b (len (element_bytes a x)) ≡ y ∷ [] → meaning y ≢ meaning x
IsReadOtherwisePacked a b (message v) = ⊥

-- the bytes of a packed list of the scalar alone are no whole elements of the new kind
abbrev pub IsUnsoundPacked : Kind → Kind → Datum → Type 0
IsUnsoundPacked a b (scalar x) = AreElements (element_of b) (element_bytes a x) → ⊥
IsUnsoundPacked a b (message v) = ⊥

-- the same of the one element of a packed list
pub data IsUnlikeElement (old new : Types) (a b : Kind) (d : Datum) : Type 0 where
  never_element : IsNeverSame old new a b d → IsUnlikeElement old new a b d
  unsound_element : is_packable b ≡ true → IsUnsoundPacked a b d → IsUnlikeElement old new a b d
  otherwise_element : IsReadOtherwisePacked a b d → IsUnlikeElement old new a b d

-- VALUES THAT ARE BUILT

-- the number of the first value of an enum
abbrev pub first_number : List (List ℕ × ℤ) → Option ℤ
first_number [] = None
first_number (v ∷ vs) = Some v.1

-- the scalar may be the key of a map
abbrev pub is_key_value : Datum → Bool
is_key_value (scalar (int32 z)) = true
is_key_value (scalar (int64 z)) = true
is_key_value (scalar (uint32 n)) = true
is_key_value (scalar (uint64 n)) = true
is_key_value (scalar (boolean b)) = true
is_key_value (scalar (text s)) = true
is_key_value (scalar (float n)) = false
is_key_value (scalar (double n)) = false
is_key_value (scalar (enum z)) = false
is_key_value (scalar (bytes s)) = false
is_key_value (message v) = false

-- A value of the old kind that is unlike what the new kind reads of it, alone, in a list, and in a map, of which no value is a group or of a
-- closed enum. It is no default, unless that is the one value that is not kept.
pub record IsLostValue (old new : Types) (a b : Kind) (d : Datum) : Type 0 where
  pub value : IsValue old a d
  pub unlike : IsUnlike old new a b d
  pub other : closed_enum a ≡ None → keeps_others new a b ≡ false → is_default_datum d ≡ false
  pub in_entry : is_of_proto2 a ≡ false → is_of_proto2 b ≡ false → IsUnlikeEntry old new a b d
  pub in_packed : is_packable a ≡ true → IsUnlikeElement old new a b d
