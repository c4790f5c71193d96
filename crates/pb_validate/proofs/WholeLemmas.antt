-- Bytes that are whole records: lists of fixed width, and records up to the end.
use Rattle.std.proofs.Common.{◌≡◌, ℕ, ◌-◌, ◌<◌, ◌%◌, List, [], ◌∷◌, length, refl, arith, Some}
use Rattle.pb_wire.specs.Record.{Record, Payload}
use Rattle.pb_wire.specs.Schema.{Schema, four_bytes, eight_bytes}
use Rattle.pb_wire.specs.Sound.{IsElement, AreElements, no_elements, element}
use Rattle.pb_wire.specs.Fault.{Place, HasTag}
use Rattle.pb_validate.specs.Judging.{Front, ReadsValue}
use Rattle.pb_validate.proofs.JudgeLemmas.{group_value}

pub fours : (s : List ℕ) → length s % 4 ≡ 0 → AreElements four_bytes s
fours [] e = no_elements
fours (a ∷ []) e = absurd (omega (arith, e))
fours (a ∷ b ∷ []) e = absurd (omega (arith, e))
fours (a ∷ b ∷ c ∷ []) e = absurd (omega (arith, e))
fours (a ∷ b ∷ c ∷ d ∷ s) e = element {first = a ∷ b ∷ c ∷ d ∷ []} (IsElement.four_element refl) (fours s (omega (arith, e))) refl

pub eights : (s : List ℕ) → length s % 8 ≡ 0 → AreElements eight_bytes s
eights [] e = no_elements
eights (a ∷ []) e = absurd (omega (arith, e))
eights (a ∷ b ∷ []) e = absurd (omega (arith, e))
eights (a ∷ b ∷ c ∷ []) e = absurd (omega (arith, e))
eights (a ∷ b ∷ c ∷ d ∷ []) e = absurd (omega (arith, e))
eights (a ∷ b ∷ c ∷ d ∷ f ∷ []) e = absurd (omega (arith, e))
eights (a ∷ b ∷ c ∷ d ∷ f ∷ g ∷ []) e = absurd (omega (arith, e))
eights (a ∷ b ∷ c ∷ d ∷ f ∷ g ∷ h ∷ []) e = absurd (omega (arith, e))
eights (a ∷ b ∷ c ∷ d ∷ f ∷ g ∷ h ∷ i ∷ s) e =
    element {first = a ∷ b ∷ c ∷ d ∷ f ∷ g ∷ h ∷ i ∷ []} (IsElement.eight_element refl) (eights s (omega (arith, e))) refl

-- the records of a group up to its end tag
pub group_ended :
    (S : Schema) (c d : S.Context) (levels k n w : ℕ) (p e q : Place) (rs : List Record) → 0 < levels → d ≡ S.group_context c k → Front S d (levels - 1) p rs e
    → HasTag e n w q → w ≡ 4 → Some k ≡ Some n → (payload : Payload) × ReadsValue S c levels k 3 p payload q
group_ended S c d levels k n w p e q rs some is front tag ends same =
    let number : n ≡ k = cc in group_value S c levels k p q some (rs, (e, rw is at front, rw (ends, number) at tag))
