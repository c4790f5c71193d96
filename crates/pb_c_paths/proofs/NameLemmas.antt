-- Names that are UTF-8, and bytes that are not.
use Rattle.std.proofs.Common.{◌≡◌, ℕ, List, Bool, true, false, None, refl, sym, ap}
use Rattle.std.specs.Prelude.{if◌then◌else◌}
use Rattle.std.specs.Str.{IsUtf8, is_utf8}
use Rattle.std.proofs.lemmas.Str.{IsUtf8-from_is_utf8, is_utf8-from_IsUtf8}
use Rattle.pb_schema.specs.Tables.{field_named}
use Rattle.pb_schema.specs.Types.{Types, message_fields}
use Rattle.pb_c_paths.specs.Path.{named}

refuted : (b : Bool) → (b ≡ true → ⊥) → b ≡ false
refuted true h = absurd (h refl)
refuted false h = refl

-- a name that is UTF-8 is looked up
pub named_text : (pool : Types) (m : ℕ) (w : List ℕ) → IsUtf8 w → named pool m w ≡ field_named w (message_fields pool m)
named_text pool m w is = ap (λ x. if x then field_named w (message_fields pool m) else None) (is_utf8-from_IsUtf8 w is)

-- what is not UTF-8 names no field
pub named_none : (pool : Types) (m : ℕ) (w : List ℕ) → (IsUtf8 w → ⊥) → None ≡ named pool m w
named_none pool m w isnt = sym (ap (λ x. if x then field_named w (message_fields pool m) else None) (refuted (is_utf8 w) (λ h. isnt (IsUtf8-from_is_utf8 w h))))
