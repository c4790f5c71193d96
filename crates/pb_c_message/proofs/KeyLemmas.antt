-- Strings as keys.
use Rattle.std.proofs.Common.{◌≡◌, ◌<◌, ℕ, List, Bool, true, false, Option, Some, None, length, get_or, option_and_then, refl, sym, ap, ◌∙◌}
use Rattle.std.specs.Prelude.{if◌then◌else◌}
use Rattle.std.specs.Str.{IsUtf8, is_utf8}
use Rattle.std.proofs.lemmas.Option.{slice_get_read}
use Rattle.std.proofs.lemmas.Str.{IsUtf8-from_is_utf8, is_utf8-from_IsUtf8}
use Rattle.pb_schema.specs.Scalar.{Scalar, text}
use Rattle.pb_c_message.specs.Places.{Bytes, text_key_said}

-- a string of the caller's as a key
abbrev as_key : Bytes → Option Scalar
as_key b = if is_utf8 b.now then Some (text b.now) else None

read_key : (keys : List Bytes) (n : ℕ) (b : Bytes) → n < length keys → b ≡ get_or keys n b → text_key_said keys n ≡ as_key b
read_key keys n b within at = ap (option_and_then as_key) (slice_get_read keys (length keys) n b refl within at)

pub text_of :
    (keys : List Bytes) (n : ℕ) (b : Bytes) (t : List ℕ) → n < length keys → b ≡ get_or keys n b → t ≡ b.now → IsUtf8 t
    → text_key_said keys n ≡ Some (text t)
text_of keys n b t within at same is =
    read_key keys n b within at
    ∙ ap (λ x. if x then Some (text b.now) else None) (ap is_utf8 (sym same) ∙ is_utf8-from_IsUtf8 t is)
    ∙ ap (λ x. Some (text x)) (sym same)

refuted : (b : Bool) → (b ≡ true → ⊥) → b ≡ false
refuted true h = absurd (h refl)
refuted false h = refl

pub no_text :
    (keys : List Bytes) (n : ℕ) (b : Bytes) → n < length keys → b ≡ get_or keys n b → (IsUtf8 b.now → ⊥) → text_key_said keys n ≡ None
no_text keys n b within at isnt =
    read_key keys n b within at
    ∙ ap (λ x. if x then Some (text b.now) else None) (refuted (is_utf8 b.now) (λ h. isnt (IsUtf8-from_is_utf8 b.now h)))
