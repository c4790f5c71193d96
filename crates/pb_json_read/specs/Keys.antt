-- What the name of a member is read as where it is a map's key (ProtoJSON format, "JSON representation").
use Rattle.std.specs.Prelude.{◌≡◌, ℕ, ℤ, pos, ◌<◌, ◌^◌, List, Bool, Some, FitsSigned, IsUtf8}
use Rattle.std.specs.Int.{w32, w64}
use Rattle.pb_schema.specs.declared.types.Kind.{Kind}
use Rattle.pb_schema.specs.declared.types.Kind.TheVariants as kind
use Rattle.pb_schema.specs.Scalar.{Scalar, int32, int64, uint32, uint64, boolean, text}
use Rattle.pb_json_scalars.specs.Keys.{IsKeyText, bool_key}

abbrev pub IsInt32Key : List ℕ → Scalar → Type 0
IsInt32Key s x = (z : ℤ) × (IsKeyText s z × FitsSigned w32 z) × (x ≡ int32 z)

abbrev pub IsInt64Key : List ℕ → Scalar → Type 0
IsInt64Key s x = (z : ℤ) × (IsKeyText s z × FitsSigned w64 z) × (x ≡ int64 z)

abbrev pub IsUint32Key : List ℕ → Scalar → Type 0
IsUint32Key s x = (n : ℕ) × (IsKeyText s (pos n) × (n < 2 ^ 32)) × (x ≡ uint32 n)

abbrev pub IsUint64Key : List ℕ → Scalar → Type 0
IsUint64Key s x = (n : ℕ) × (IsKeyText s (pos n) × (n < 2 ^ 64)) × (x ≡ uint64 n)

abbrev pub IsBoolKey : List ℕ → Scalar → Type 0
IsBoolKey s x = (b : Bool) × (bool_key s ≡ Some b) × (x ≡ boolean b)

abbrev pub IsTextKey : List ℕ → Scalar → Type 0
IsTextKey s x = (t : List ℕ) × (IsUtf8 t × (t ≡ s)) × (x ≡ text t)

-- the name means a key of the kind, and this one
abbrev pub IsKey : Kind → List ℕ → Scalar → Type 0
IsKey kind.Int32 s x = IsInt32Key s x
IsKey kind.Sint32 s x = IsInt32Key s x
IsKey kind.Sfixed32 s x = IsInt32Key s x
IsKey kind.Int64 s x = IsInt64Key s x
IsKey kind.Sint64 s x = IsInt64Key s x
IsKey kind.Sfixed64 s x = IsInt64Key s x
IsKey kind.Uint32 s x = IsUint32Key s x
IsKey kind.Fixed32 s x = IsUint32Key s x
IsKey kind.Uint64 s x = IsUint64Key s x
IsKey kind.Fixed64 s x = IsUint64Key s x
IsKey kind.Bool s x = IsBoolKey s x
IsKey kind.Text s x = IsTextKey s x
IsKey kind.Float s x = ⊥
IsKey kind.Double s x = ⊥
IsKey kind.Bytes s x = ⊥
IsKey (kind.Enum _) s x = ⊥
IsKey (kind.ClosedEnum _) s x = ⊥
IsKey (kind.Message _) s x = ⊥
IsKey (kind.Group _) s x = ⊥
