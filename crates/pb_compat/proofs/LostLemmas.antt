-- Kinds that are not kept: a value of each that the new kind reads otherwise, or not at all.
use Rattle.std.proofs.Common.{◌≡◌, ℕ, pos, negsuc, [], ◌∷◌, true, refl, sym, ◌∙◌, ap, arith}
use Rattle.std.specs.Prelude.{IsUtf8, encode_utf8_all}
use Rattle.std.specs.Str.{chars}
use Rattle.std.proofs.lemmas.Int.{ints}
use Rattle.std.proofs.lemmas.Str.{IsUtf8-nil, encodes-chars}
use Rattle.pb_schema.specs.declared.types.Kind.TheVariants as kind
use Rattle.pb_schema.specs.Types.{Types}
use Rattle.pb_schema.specs.Scalar.{int32, int64, uint32, uint64, boolean, float, double, enum, text, bytes}
use Rattle.pb_compat.specs.Scalars.{Meaning, integer, single, double_bits, octets, ScalarsAreLost}

-- the number that a meaning has
size : Meaning → ℕ
size (integer (pos n)) = n
size (integer (negsuc n)) = n
size (single n) = n
size (double_bits n) = n
size (octets s) = 0

-- the byte 255 begins no character
no_character : chars (255 ∷ []) ≡ []
unfolding chars
no_character = refl

not_text : IsUtf8 (255 ∷ []) → ⊥
not_text h = let q : 255 ∷ [] ≡ encode_utf8_all [] = sym (encodes-chars (255 ∷ []) h) ∙ ap encode_utf8_all no_character in absurd (cc)

pub scalars_lost : (old new : Types) → ScalarsAreLost old new
unfolding size
scalars_lost old new kind.Double kind.Double none free free_too e h = absurd (cc)
scalars_lost old new kind.Double kind.Fixed64 none free free_too e h = let r = h (double 0) (omega arith) refl in let q = r.2 in absurd (cc)
scalars_lost old new kind.Double kind.Sfixed64 none free free_too e h = let r = h (double 0) (omega arith) refl in let q = r.2 in absurd (cc)
scalars_lost old new kind.Double (kind.ClosedEnum j) none free free_too e h = absurd (cc)
scalars_lost old new kind.Double b none free free_too e h = h (double 0) (omega arith) refl
scalars_lost old new kind.Float kind.Float none free free_too e h = absurd (cc)
scalars_lost old new kind.Float kind.Fixed32 none free free_too e h = let r = h (float 0) (omega arith) refl in let q = r.2 in absurd (cc)
scalars_lost old new kind.Float kind.Sfixed32 none free free_too e h = let r = h (float 0) (omega arith) refl in let q = r.2 in absurd (cc)
scalars_lost old new kind.Float (kind.ClosedEnum j) none free free_too e h = absurd (cc)
scalars_lost old new kind.Float b none free free_too e h = h (float 0) (omega arith) refl
scalars_lost old new kind.Int64 kind.Int64 none free free_too e h = absurd (cc)
scalars_lost old new kind.Int64 kind.Uint64 none free free_too e h = let r = h (int64 (negsuc 0)) (grind (arith, ints)) refl in let q = r.2 in absurd (cc)
scalars_lost old new kind.Int64 kind.Int32 none free free_too e h = let r = h (int64 (pos 2147483648)) (grind (arith, ints)) refl in let q = r.2 in absurd (cc)
scalars_lost old new kind.Int64 kind.Bool none free free_too e h = let r = h (int64 (negsuc 0)) (grind (arith, ints)) refl in let q = r.2 in absurd (cc)
scalars_lost old new kind.Int64 kind.Uint32 none free free_too e h = let r = h (int64 (negsuc 0)) (grind (arith, ints)) refl in let q = r.2 in absurd (cc)
scalars_lost old new kind.Int64 kind.Sint32 none free free_too e h = let r = h (int64 (pos 1)) (grind (arith, ints)) refl in let q = r.2 in absurd (cc)
scalars_lost old new kind.Int64 kind.Sint64 none free free_too e h = let r = h (int64 (pos 1)) (grind (arith, ints)) refl in let q = r.2 in absurd (cc)
scalars_lost old new kind.Int64 (kind.Enum j) none free free_too e h = let r = h (int64 (pos 2147483648)) (grind (arith, ints)) refl in let q = r.2 in absurd (cc)
scalars_lost old new kind.Int64 (kind.ClosedEnum j) none free free_too e h = absurd (cc)
scalars_lost old new kind.Int64 b none free free_too e h = h (int64 (pos 0)) (grind (arith, ints)) refl
scalars_lost old new kind.Uint64 kind.Int64 none free free_too e h = let r = h (uint64 18446744073709551615) (omega arith) refl in let q = r.2 in absurd (cc)
scalars_lost old new kind.Uint64 kind.Uint64 none free free_too e h = absurd (cc)
scalars_lost old new kind.Uint64 kind.Int32 none free free_too e h = let r = h (uint64 18446744073709551615) (omega arith) refl in let q = r.2 in absurd (cc)
scalars_lost old new kind.Uint64 kind.Bool none free free_too e h = let r = h (uint64 2) (omega arith) refl in let q : 1 ≡ 2 = ap size r.2 in absurd (omega (arith, q))
scalars_lost old new kind.Uint64 kind.Uint32 none free free_too e h = let r = h (uint64 4294967296) (omega arith) refl in let q : 0 ≡ 4294967296 = ap size r.2 in absurd (omega (arith, q))
scalars_lost old new kind.Uint64 kind.Sint32 none free free_too e h = let r = h (uint64 1) (omega arith) refl in let q = r.2 in absurd (cc)
scalars_lost old new kind.Uint64 kind.Sint64 none free free_too e h = let r = h (uint64 1) (omega arith) refl in let q = r.2 in absurd (cc)
scalars_lost old new kind.Uint64 (kind.Enum j) none free free_too e h = let r = h (uint64 18446744073709551615) (omega arith) refl in let q = r.2 in absurd (cc)
scalars_lost old new kind.Uint64 (kind.ClosedEnum j) none free free_too e h = absurd (cc)
scalars_lost old new kind.Uint64 b none free free_too e h = h (uint64 0) (omega arith) refl
scalars_lost old new kind.Int32 kind.Int64 none free free_too e h = absurd (cc)
scalars_lost old new kind.Int32 kind.Uint64 none free free_too e h = let r = h (int32 (negsuc 0)) (grind (arith, ints)) refl in let q = r.2 in absurd (cc)
scalars_lost old new kind.Int32 kind.Int32 none free free_too e h = absurd (cc)
scalars_lost old new kind.Int32 kind.Bool none free free_too e h = let r = h (int32 (negsuc 0)) (grind (arith, ints)) refl in let q = r.2 in absurd (cc)
scalars_lost old new kind.Int32 kind.Uint32 none free free_too e h = let r = h (int32 (negsuc 0)) (grind (arith, ints)) refl in let q = r.2 in absurd (cc)
scalars_lost old new kind.Int32 kind.Sint32 none free free_too e h = let r = h (int32 (pos 1)) (grind (arith, ints)) refl in let q = r.2 in absurd (cc)
scalars_lost old new kind.Int32 kind.Sint64 none free free_too e h = let r = h (int32 (pos 1)) (grind (arith, ints)) refl in let q = r.2 in absurd (cc)
scalars_lost old new kind.Int32 (kind.Enum j) none free free_too e h = absurd (cc)
scalars_lost old new kind.Int32 (kind.ClosedEnum j) none free free_too e h = absurd (cc)
scalars_lost old new kind.Int32 b none free free_too e h = h (int32 (pos 0)) (grind (arith, ints)) refl
scalars_lost old new kind.Fixed64 kind.Double none free free_too e h = let r = h (uint64 18446744073709551615) (omega arith) refl in let q = r.2 in absurd (cc)
scalars_lost old new kind.Fixed64 kind.Fixed64 none free free_too e h = absurd (cc)
scalars_lost old new kind.Fixed64 kind.Sfixed64 none free free_too e h = let r = h (uint64 18446744073709551615) (omega arith) refl in let q = r.2 in absurd (cc)
scalars_lost old new kind.Fixed64 (kind.ClosedEnum j) none free free_too e h = absurd (cc)
scalars_lost old new kind.Fixed64 b none free free_too e h = h (uint64 0) (omega arith) refl
scalars_lost old new kind.Fixed32 kind.Float none free free_too e h = let r = h (uint32 4294967295) (omega arith) refl in let q = r.2 in absurd (cc)
scalars_lost old new kind.Fixed32 kind.Fixed32 none free free_too e h = absurd (cc)
scalars_lost old new kind.Fixed32 kind.Sfixed32 none free free_too e h = let r = h (uint32 4294967295) (omega arith) refl in let q = r.2 in absurd (cc)
scalars_lost old new kind.Fixed32 (kind.ClosedEnum j) none free free_too e h = absurd (cc)
scalars_lost old new kind.Fixed32 b none free free_too e h = h (uint32 0) (omega arith) refl
scalars_lost old new kind.Bool kind.Int64 none free free_too e h = absurd (cc)
scalars_lost old new kind.Bool kind.Uint64 none free free_too e h = absurd (cc)
scalars_lost old new kind.Bool kind.Int32 none free free_too e h = absurd (cc)
scalars_lost old new kind.Bool kind.Bool none free free_too e h = absurd (cc)
scalars_lost old new kind.Bool kind.Uint32 none free free_too e h = absurd (cc)
scalars_lost old new kind.Bool kind.Sint32 none free free_too e h = let r = h (boolean true) tt refl in let q = r.2 in absurd (cc)
scalars_lost old new kind.Bool kind.Sint64 none free free_too e h = let r = h (boolean true) tt refl in let q = r.2 in absurd (cc)
scalars_lost old new kind.Bool (kind.Enum j) none free free_too e h = absurd (cc)
scalars_lost old new kind.Bool (kind.ClosedEnum j) none free free_too e h = absurd (cc)
scalars_lost old new kind.Bool b none free free_too e h = h (boolean true) tt refl
scalars_lost old new kind.Text kind.Text none free free_too e h = absurd (cc)
scalars_lost old new kind.Text kind.Bytes none free free_too e h = absurd (cc)
scalars_lost old new kind.Text (kind.ClosedEnum j) none free free_too e h = absurd (cc)
scalars_lost old new kind.Text b none free free_too e h = h (text []) IsUtf8-nil refl
scalars_lost old new kind.Bytes kind.Text none free free_too e h = not_text (h (bytes (255 ∷ [])) (omega arith, tt) refl).0
scalars_lost old new kind.Bytes kind.Bytes none free free_too e h = absurd (cc)
scalars_lost old new kind.Bytes (kind.ClosedEnum j) none free free_too e h = absurd (cc)
scalars_lost old new kind.Bytes b none free free_too e h = h (bytes []) tt refl
scalars_lost old new kind.Uint32 kind.Int64 none free free_too e h = absurd (cc)
scalars_lost old new kind.Uint32 kind.Uint64 none free free_too e h = absurd (cc)
scalars_lost old new kind.Uint32 kind.Int32 none free free_too e h = let r = h (uint32 4294967295) (omega arith) refl in let q = r.2 in absurd (cc)
scalars_lost old new kind.Uint32 kind.Bool none free free_too e h = let r = h (uint32 2) (omega arith) refl in let q : 1 ≡ 2 = ap size r.2 in absurd (omega (arith, q))
scalars_lost old new kind.Uint32 kind.Uint32 none free free_too e h = absurd (cc)
scalars_lost old new kind.Uint32 kind.Sint32 none free free_too e h = let r = h (uint32 1) (omega arith) refl in let q = r.2 in absurd (cc)
scalars_lost old new kind.Uint32 kind.Sint64 none free free_too e h = let r = h (uint32 1) (omega arith) refl in let q = r.2 in absurd (cc)
scalars_lost old new kind.Uint32 (kind.Enum j) none free free_too e h = let r = h (uint32 4294967295) (omega arith) refl in let q = r.2 in absurd (cc)
scalars_lost old new kind.Uint32 (kind.ClosedEnum j) none free free_too e h = absurd (cc)
scalars_lost old new kind.Uint32 b none free free_too e h = h (uint32 0) (omega arith) refl
scalars_lost old new kind.Sfixed32 kind.Float none free free_too e h = let r = h (int32 (negsuc 0)) (grind (arith, ints)) refl in let q = r.2 in absurd (cc)
scalars_lost old new kind.Sfixed32 kind.Fixed32 none free free_too e h = let r = h (int32 (negsuc 0)) (grind (arith, ints)) refl in let q = r.2 in absurd (cc)
scalars_lost old new kind.Sfixed32 kind.Sfixed32 none free free_too e h = absurd (cc)
scalars_lost old new kind.Sfixed32 (kind.ClosedEnum j) none free free_too e h = absurd (cc)
scalars_lost old new kind.Sfixed32 b none free free_too e h = h (int32 (pos 0)) (grind (arith, ints)) refl
scalars_lost old new kind.Sfixed64 kind.Double none free free_too e h = let r = h (int64 (negsuc 0)) (grind (arith, ints)) refl in let q = r.2 in absurd (cc)
scalars_lost old new kind.Sfixed64 kind.Fixed64 none free free_too e h = let r = h (int64 (negsuc 0)) (grind (arith, ints)) refl in let q = r.2 in absurd (cc)
scalars_lost old new kind.Sfixed64 kind.Sfixed64 none free free_too e h = absurd (cc)
scalars_lost old new kind.Sfixed64 (kind.ClosedEnum j) none free free_too e h = absurd (cc)
scalars_lost old new kind.Sfixed64 b none free free_too e h = h (int64 (pos 0)) (grind (arith, ints)) refl
scalars_lost old new kind.Sint32 kind.Int64 none free free_too e h = let r = h (int32 (negsuc 0)) (grind (arith, ints)) refl in let q = r.2 in absurd (cc)
scalars_lost old new kind.Sint32 kind.Uint64 none free free_too e h = let r = h (int32 (negsuc 0)) (grind (arith, ints)) refl in let q = r.2 in absurd (cc)
scalars_lost old new kind.Sint32 kind.Int32 none free free_too e h = let r = h (int32 (negsuc 0)) (grind (arith, ints)) refl in let q = r.2 in absurd (cc)
scalars_lost old new kind.Sint32 kind.Bool none free free_too e h = let r = h (int32 (negsuc 0)) (grind (arith, ints)) refl in let q = r.2 in absurd (cc)
scalars_lost old new kind.Sint32 kind.Uint32 none free free_too e h = let r = h (int32 (negsuc 0)) (grind (arith, ints)) refl in let q = r.2 in absurd (cc)
scalars_lost old new kind.Sint32 kind.Sint32 none free free_too e h = absurd (cc)
scalars_lost old new kind.Sint32 kind.Sint64 none free free_too e h = absurd (cc)
scalars_lost old new kind.Sint32 (kind.Enum j) none free free_too e h = let r = h (int32 (negsuc 0)) (grind (arith, ints)) refl in let q = r.2 in absurd (cc)
scalars_lost old new kind.Sint32 (kind.ClosedEnum j) none free free_too e h = absurd (cc)
scalars_lost old new kind.Sint32 b none free free_too e h = h (int32 (pos 0)) (grind (arith, ints)) refl
scalars_lost old new kind.Sint64 kind.Int64 none free free_too e h = let r = h (int64 (negsuc 0)) (grind (arith, ints)) refl in let q = r.2 in absurd (cc)
scalars_lost old new kind.Sint64 kind.Uint64 none free free_too e h = let r = h (int64 (negsuc 0)) (grind (arith, ints)) refl in let q = r.2 in absurd (cc)
scalars_lost old new kind.Sint64 kind.Int32 none free free_too e h = let r = h (int64 (negsuc 0)) (grind (arith, ints)) refl in let q = r.2 in absurd (cc)
scalars_lost old new kind.Sint64 kind.Bool none free free_too e h = let r = h (int64 (negsuc 0)) (grind (arith, ints)) refl in let q = r.2 in absurd (cc)
scalars_lost old new kind.Sint64 kind.Uint32 none free free_too e h = let r = h (int64 (negsuc 0)) (grind (arith, ints)) refl in let q = r.2 in absurd (cc)
scalars_lost old new kind.Sint64 kind.Sint32 none free free_too e h = let r = h (int64 (pos 2147483648)) (grind (arith, ints)) refl in let q : 0 ≡ 2147483648 = ap size r.2 in absurd (omega (arith, q))
scalars_lost old new kind.Sint64 kind.Sint64 none free free_too e h = absurd (cc)
scalars_lost old new kind.Sint64 (kind.Enum j) none free free_too e h = let r = h (int64 (negsuc 0)) (grind (arith, ints)) refl in let q = r.2 in absurd (cc)
scalars_lost old new kind.Sint64 (kind.ClosedEnum j) none free free_too e h = absurd (cc)
scalars_lost old new kind.Sint64 b none free free_too e h = h (int64 (pos 0)) (grind (arith, ints)) refl
scalars_lost old new (kind.Enum i) kind.Int64 none free free_too e h = absurd (cc)
scalars_lost old new (kind.Enum i) kind.Uint64 none free free_too e h = let r = h (enum (negsuc 0)) (grind (arith, ints)) refl in let q = r.2 in absurd (cc)
scalars_lost old new (kind.Enum i) kind.Int32 none free free_too e h = absurd (cc)
scalars_lost old new (kind.Enum i) kind.Bool none free free_too e h = let r = h (enum (negsuc 0)) (grind (arith, ints)) refl in let q = r.2 in absurd (cc)
scalars_lost old new (kind.Enum i) kind.Uint32 none free free_too e h = let r = h (enum (negsuc 0)) (grind (arith, ints)) refl in let q = r.2 in absurd (cc)
scalars_lost old new (kind.Enum i) kind.Sint32 none free free_too e h = let r = h (enum (pos 1)) (grind (arith, ints)) refl in let q = r.2 in absurd (cc)
scalars_lost old new (kind.Enum i) kind.Sint64 none free free_too e h = let r = h (enum (pos 1)) (grind (arith, ints)) refl in let q = r.2 in absurd (cc)
scalars_lost old new (kind.Enum i) (kind.Enum j) none free free_too e h = absurd (cc)
scalars_lost old new (kind.Enum i) (kind.ClosedEnum j) none free free_too e h = absurd (cc)
scalars_lost old new (kind.Enum i) b none free free_too e h = h (enum (pos 0)) (grind (arith, ints)) refl
scalars_lost old new (kind.Message m) b none free free_too e h = absurd (cc)
scalars_lost old new (kind.Group m) b none free free_too e h = absurd (cc)
scalars_lost old new (kind.ClosedEnum i) b none free free_too e h = absurd (cc)
