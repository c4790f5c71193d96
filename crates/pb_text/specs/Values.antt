-- The text of a value that is no message ("Values" of the text format specification).
use Rattle.std.specs.Prelude.{◌≡◌, ℕ, ℤ, List, [], decimal, from_bits}
use Rattle.std.specs.Float.{binary32, binary64}
use Rattle.std.specs.Fmt.{signed_decimal}
use Rattle.pb_schema.specs.Scalar.{Scalar, int32, int64, uint32, uint64, boolean, float, double, enum, text, bytes}
use Rattle.pb_value.specs.Data.{Datum, scalar, message}
use Rattle.pb_listing.specs.Listing.{bool_text, enum_text}
use Rattle.pb_text.specs.declared.form.Characters.{Characters}
use Rattle.pb_text.specs.Numbers.{IsFloatText}
use Rattle.pb_text.specs.Strings.{escaped, quoted}

-- An enum's value is the name of the first of these with its number, or else the number. Bytes are escaped in each form.
abbrev pub IsScalarText : Characters → List (List ℕ × ℤ) → Scalar → List ℕ → Type 0
IsScalarText characters names (int32 z) s = s ≡ signed_decimal z
IsScalarText characters names (int64 z) s = s ≡ signed_decimal z
IsScalarText characters names (uint32 n) s = s ≡ decimal n
IsScalarText characters names (uint64 n) s = s ≡ decimal n
IsScalarText characters names (boolean b) s = s ≡ bool_text b
IsScalarText characters names (float n) s = IsFloatText binary32 (from_bits binary32 n) s
IsScalarText characters names (double n) s = IsFloatText binary64 (from_bits binary64 n) s
IsScalarText characters names (enum z) s = s ≡ enum_text names z
IsScalarText characters names (text t) s = s ≡ quoted characters t
IsScalarText characters names (bytes t) s = s ≡ escaped t

-- a key of a map, which is no enum's
abbrev pub IsKeyText : Characters → Scalar → List ℕ → Type 0
IsKeyText characters key s = IsScalarText characters [] key s

-- of a message nothing
abbrev pub IsDatumText : Characters → List (List ℕ × ℤ) → Datum → List ℕ → Type 0
IsDatumText characters names (scalar x) s = IsScalarText characters names x s
IsDatumText characters names (message b) s = s ≡ []
