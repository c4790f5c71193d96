-- Which scalars a field keeps if its kind changes: what the new kind reads of what the old kind wrote means the same (language guide, "Updating A
-- Message Type"; encoding guide, "More Integer Types").
use Rattle.std.specs.Prelude.{◌≡◌, ℕ, zero, suc, ℤ, pos, negsuc, ◌^◌, List, Bool, true, false, cond, ◌==◌, ◌&&◌, ◌||◌, nat_le, IsTrue, IsSomeAnd, None}
use Rattle.std.specs.List.{list_all}
use Rattle.pb_schema.specs.declared.types.Kind.{Kind}
use Rattle.pb_schema.specs.declared.types.Kind.TheVariants as kind
use Rattle.pb_schema.specs.Types.{Types}
use Rattle.pb_schema.specs.Scalar.{Scalar, int32, int64, uint32, uint64, boolean, float, double, enum, text, bytes}
use Rattle.pb_schema.specs.Kinds.{IsOfKind, read, written, message_of_kind, closed_enum}
use Rattle.pb_schema.specs.Closed.{declares, is_declared}
use Rattle.pb_schema.specs.EnumValues.{enum_values}

-- THE MEANING OF A SCALAR

-- An integer, also of false and true, which are 0 and 1, and of an enum's value, which is its number; the bits of a float or a double; or the
-- bytes of a string.
pub data Meaning : Type 0 where
  integer : ℤ → Meaning
  single : ℕ → Meaning
  double_bits : ℕ → Meaning
  octets : List ℕ → Meaning

abbrev pub meaning : Scalar → Meaning
meaning (int32 z) = integer z
meaning (int64 z) = integer z
meaning (uint32 n) = integer (pos n)
meaning (uint64 n) = integer (pos n)
meaning (boolean b) = integer (pos (cond b 1 0))
meaning (float n) = single n
meaning (double n) = double_bits n
meaning (enum z) = integer z
meaning (text s) = octets s
meaning (bytes s) = octets s

-- the new kind reads a value of its own of what the old kind wrote for x, and it means the same
abbrev pub KeepsScalar : Types → Kind → Kind → Scalar → Type 0
KeepsScalar new a b x = IsSomeAnd (read b (written a x)) (λ y. IsOfKind b y × IsTrue (is_declared new b y) × (meaning y ≡ meaning x))

-- so it does for each value of the old kind
abbrev pub KeepsScalars : Types → Types → Kind → Kind → Type 0
KeepsScalars old new a b = (x : Scalar) → IsOfKind a x → IsTrue (is_declared old a x) → KeepsScalar new a b x

-- THE TABLE

-- the kind reads the varint of this number as this number
abbrev pub holds_number : Types → Kind → ℤ → Bool
holds_number new kind.Int32 z = true
holds_number new kind.Int64 z = true
holds_number new (kind.Enum _) z = true
holds_number new (kind.ClosedEnum e) z = declares new e.0 z
holds_number new kind.Uint32 (pos n) = true
holds_number new kind.Uint64 (pos n) = true
holds_number new kind.Bool (pos n) = nat_le n 1
holds_number new kind.Sint32 (pos n) = n == 0
holds_number new kind.Sint64 (pos n) = n == 0
holds_number new _ z = false

-- the numbers of all values of an enum
abbrev pub holds_values : Types → Kind → List (List ℕ × ℤ) → Bool
holds_values new k values = list_all (λ v. holds_number new k v.1) values

-- an enum declares each number from -n to n - 1 but 0
unfoldable pub declares_within : Types → ℕ → ℕ → Bool
declares_within pool e zero = true
declares_within pool e (suc n) = ((n == 0) || declares pool e (pos n)) && declares pool e (negsuc n) && declares_within pool e n

-- each int32 but 0
unfoldable pub declares_others : Types → ℕ → Bool
declares_others pool e = declares_within pool e (2 ^ 31)

-- each int32
abbrev pub holds_int32 : Types → Kind → Bool
holds_int32 new kind.Int32 = true
holds_int32 new kind.Int64 = true
holds_int32 new (kind.Enum _) = true
holds_int32 new (kind.ClosedEnum e) = declares new e.0 (pos 0) && declares_others new e.0
holds_int32 new _ = false

abbrev pub holds_int64 : Kind → Bool
holds_int64 kind.Int64 = true
holds_int64 _ = false

abbrev pub holds_uint32 : Kind → Bool
holds_uint32 kind.Uint32 = true
holds_uint32 kind.Uint64 = true
holds_uint32 kind.Int64 = true
holds_uint32 _ = false

abbrev pub holds_uint64 : Kind → Bool
holds_uint64 kind.Uint64 = true
holds_uint64 _ = false

abbrev pub holds_sint32 : Kind → Bool
holds_sint32 kind.Sint32 = true
holds_sint32 kind.Sint64 = true
holds_sint32 _ = false

abbrev pub holds_sint64 : Kind → Bool
holds_sint64 kind.Sint64 = true
holds_sint64 _ = false

abbrev pub holds_fixed32 : Kind → Bool
holds_fixed32 kind.Fixed32 = true
holds_fixed32 _ = false

abbrev pub holds_fixed64 : Kind → Bool
holds_fixed64 kind.Fixed64 = true
holds_fixed64 _ = false

abbrev pub holds_sfixed32 : Kind → Bool
holds_sfixed32 kind.Sfixed32 = true
holds_sfixed32 _ = false

abbrev pub holds_sfixed64 : Kind → Bool
holds_sfixed64 kind.Sfixed64 = true
holds_sfixed64 _ = false

abbrev pub holds_float : Kind → Bool
holds_float kind.Float = true
holds_float _ = false

abbrev pub holds_double : Kind → Bool
holds_double kind.Double = true
holds_double _ = false

abbrev pub holds_text : Kind → Bool
holds_text kind.Text = true
holds_text kind.Bytes = true
holds_text _ = false

abbrev pub holds_bytes : Kind → Bool
holds_bytes kind.Bytes = true
holds_bytes _ = false

-- each value of the old kind is kept
abbrev pub keeps_scalars : Types → Types → Kind → Kind → Bool
keeps_scalars old new kind.Double b = holds_double b
keeps_scalars old new kind.Float b = holds_float b
keeps_scalars old new kind.Int64 b = holds_int64 b
keeps_scalars old new kind.Uint64 b = holds_uint64 b
keeps_scalars old new kind.Int32 b = holds_int32 new b
keeps_scalars old new kind.Fixed64 b = holds_fixed64 b
keeps_scalars old new kind.Fixed32 b = holds_fixed32 b
keeps_scalars old new kind.Bool b = holds_number new b (pos 0) && holds_number new b (pos 1)
keeps_scalars old new kind.Text b = holds_text b
keeps_scalars old new kind.Bytes b = holds_bytes b
keeps_scalars old new kind.Uint32 b = holds_uint32 b
keeps_scalars old new kind.Sfixed32 b = holds_sfixed32 b
keeps_scalars old new kind.Sfixed64 b = holds_sfixed64 b
keeps_scalars old new kind.Sint32 b = holds_sint32 b
keeps_scalars old new kind.Sint64 b = holds_sint64 b
keeps_scalars old new (kind.Enum _) b = holds_int32 new b
keeps_scalars old new (kind.Message _) b = false
keeps_scalars old new (kind.Group _) b = false
keeps_scalars old new (kind.ClosedEnum e) b = holds_values new b (enum_values old e.0)

-- THE OTHER WAY

-- where the table does not keep a kind, some value of it is not kept; closed enums are left out, of which one may declare every number
abbrev pub ScalarsAreLost : Types → Types → Type 0
ScalarsAreLost old new =
    (a b : Kind) → message_of_kind a ≡ None → closed_enum a ≡ None → closed_enum b ≡ None → keeps_scalars old new a b ≡ false → ¬ KeepsScalars old new a b
