-- Single values and keys as they are read back.
use Rattle.std.specs.Prelude.{from_bits, to_bits}
use Rattle.std.specs.Float.{binary32, binary64}
use Rattle.pb_schema.specs.declared.types.Kind.{Kind}
use Rattle.pb_schema.specs.declared.types.Kind.TheVariants as kind
use Rattle.pb_schema.specs.Scalar.{Scalar, int32, int64, uint32, uint64, boolean, float, double, enum, text, bytes}

-- the values of a kind are no numbers of an enum
abbrev pub IsNoEnum : Kind → Type 0
IsNoEnum (kind.Enum _) = ⊥
IsNoEnum (kind.ClosedEnum _) = ⊥
IsNoEnum _ = Unit {0}

-- a float by the bits of its value, so that each NaN is the one that is read
abbrev pub with_one_nan : Scalar → Scalar
with_one_nan (float n) = float (to_bits binary32 (from_bits binary32 n))
with_one_nan (double n) = double (to_bits binary64 (from_bits binary64 n))
with_one_nan (int32 z) = int32 z
with_one_nan (int64 z) = int64 z
with_one_nan (uint32 n) = uint32 n
with_one_nan (uint64 n) = uint64 n
with_one_nan (boolean b) = boolean b
with_one_nan (enum z) = enum z
with_one_nan (text s) = text s
with_one_nan (bytes s) = bytes s

-- the values of a kind may be keys of a map
abbrev pub IsKeyKind : Kind → Type 0
IsKeyKind kind.Double = ⊥
IsKeyKind kind.Float = ⊥
IsKeyKind kind.Bytes = ⊥
IsKeyKind (kind.Enum _) = ⊥
IsKeyKind (kind.ClosedEnum _) = ⊥
IsKeyKind (kind.Message _) = ⊥
IsKeyKind (kind.Group _) = ⊥
IsKeyKind _ = Unit {0}
