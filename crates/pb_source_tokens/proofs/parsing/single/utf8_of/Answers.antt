use Rattle.std.proofs.Common.{◌≡◌, refl, true, false, Bool}
use Rattle.std.proofs.lemmas.Str.{is_utf8-from_IsUtf8, IsUtf8-from_is_utf8}
use Rattle.pb_source_tokens.proofs.parsing.single.utf8_of.Goals as goal

refuted : (b : Bool) → (b ≡ true → ⊥) → b ≡ false
refuted true h = absurd (h refl)
refuted false h = refl

pub returns-in-Ok : goal.returns-in-Ok
returns-in-Ok c = record { some = (c.in-Ok.ensures.cases.0, is_utf8-from_IsUtf8 _ c.in-Ok.ensures.cases.1); none = tt }

pub returns-in-Err : goal.returns-in-Err
returns-in-Err c = record { some = tt; none = refuted _ (λ h. c.in-Err.ensures.cases.0 (IsUtf8-from_is_utf8 _ h)) }
