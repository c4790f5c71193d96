-- Bytes in words of eight, and the varints in them.
use Rattle.std.proofs.Common.{◌≡◌, ℕ, zero, suc, ◌+◌, ◌-◌, ◌<◌, ◌≤◌, ◌^◌, ◌%◌, List, [], ◌∷◌, ◌++◌, length, take, drop, refl, sym, ap, subst, ◌∙◌, arith, length-drop, length-append, None, inl, inr, ◌⊎◌, true, false}
use Rattle.std.specs.Prelude.{slice_index}
use Rattle.std.specs.Slice.Scan.{HoldsNowhere, IsFirstPlace, IsLastPlace}
use Rattle.std.proofs.lemmas.Bool.{ltb-true, ltb-false, lt-ltb, le-ltb, cases_lt, true≢false}
use Rattle.std.proofs.lemmas.List.{length-take-le, append_assoc, get_or-drop}
use Rattle.pb_wire.specs.Varint.{IsVarint, EndsOnce, groups_value}
use Rattle.pb_wire.specs.Fault.{Place, Reads, Moves}
use Rattle.pb_wire.specs.Schema.{Element, a_varint}
use Rattle.pb_wire.specs.Sound.{IsElement, AreElements, no_elements, element}
use Rattle.pb_wire.proofs.Transfers.{take-add}
use Rattle.pb_wire.proofs.ScanLemmas.{moves_passed}
use Rattle.pb_wire.specs.Scan.{here}
use Rattle.pb_validate.specs.Whole.{ends_varint, Begun}
use Rattle.pb_wire.proofs.HereLemmas.{here_passed}

-- ---- one varint

-- bytes up to and with the first that is below 128
ends_once : (s : List ℕ) (n : ℕ) → n < length s → ((k : ℕ) → k < n → 128 ≤ slice_index s k) → slice_index s n < 128 → EndsOnce (take (suc n) s)
ends_once [] n l high low = absurd (omega (arith, l))
ends_once (x ∷ xs) zero l high low = low
ends_once (x ∷ []) (suc n) l high low = absurd (omega (arith, l))
ends_once (x ∷ y ∷ ys) (suc n) l high low =
    (high 0 (omega arith), ends_once (y ∷ ys) n (omega (arith, l)) (λ k h. high (suc k) (omega (arith, h))) low)

pub varint_up_to :
    (b : List ℕ) (at n : ℕ) → at + n < length b → n < 10 → HoldsNowhere (ends_varint b) at (at + n) → ends_varint b (at + n) ≡ true
    → (k : ℕ) × Reads (here b at None) k (here b (at + n + 1) None)
varint_up_to b at n within few before last =
    let s : List ℕ = drop at b in
    let front : List ℕ = take (suc n) s in
    let left : suc n ≤ length s = let e = length-drop at b in omega (arith, e, within) in
    let size : length front ≡ suc n = length-take-le (suc n) s left in
    let high : (k : ℕ) → k < n → 128 ≤ slice_index s k =
    λ k h. subst (λ (z : ℕ). 128 ≤ z) (sym (get_or-drop at b k 0)) (ltb-false _ _ (before (at + k) (omega arith) (omega (arith, h)))) in
    let low : slice_index s n < 128 = subst (λ (z : ℕ). z < 128) (sym (get_or-drop at b n 0)) (ltb-true _ _ last) in
    let moves = subst (λ (q : Place). Moves (here b at None) front q) (here_passed b at (suc n) None) (moves_passed (here b at None) (suc n) left tt) in
    let next : at + suc n ≡ at + n + 1 = omega arith in
    let is : IsVarint (groups_value front % 2 ^ 64) front = record { size = omega (arith, size, few); ends = ends_once s n (omega (arith, left)) high low; value = refl } in
    (groups_value front % 2 ^ 64, (front, is, subst (λ (z : ℕ). Moves (here b at None) front (here b z None)) next moves))

-- the first byte
pub one_byte_varint : (b : List ℕ) (at : ℕ) → at < length b → slice_index b at < 128 → (k : ℕ) × Reads (here b at None) k (here b (at + 1) None)
one_byte_varint b at within low =
    let e : at + 0 ≡ at = omega arith in
    let h = varint_up_to b at 0 (omega (arith, within)) (omega arith) (λ k from to. absurd (omega (arith, from, to))) (ap (ends_varint b) e ∙ lt-ltb _ _ low) in
    let next : at + 0 + 1 ≡ at + 1 = omega arith in (h.0, subst (λ (z : ℕ). Reads (here b at None) h.0 (here b z None)) next h.1)

-- the ninth byte, and the tenth
pub ninth :
    (b : List ℕ) (at : ℕ) → at + 10 ≤ length b → HoldsNowhere (ends_varint b) at (at + 8) → slice_index b (at + 8) < 128
    → (k : ℕ) × Reads (here b at None) k (here b (at + 9) None)
ninth b at within before low =
    let h = varint_up_to b at 8 (omega (arith, within)) (omega arith) before (lt-ltb _ _ low) in
    let e : at + 8 + 1 ≡ at + 9 = omega arith in (h.0, subst (λ (z : ℕ). Reads (here b at None) h.0 (here b z None)) e h.1)

pub tenth :
    (b : List ℕ) (at : ℕ) → at + 10 ≤ length b → HoldsNowhere (ends_varint b) at (at + 8) → 128 ≤ slice_index b (at + 8) → slice_index b (at + 9) < 128
    → (k : ℕ) × Reads (here b at None) k (here b (at + 10) None)
tenth b at within before high low =
    let all : HoldsNowhere (ends_varint b) at (at + 9) =
    λ k from to. by k from to (cases_lt k (at + 8)) in
    let h = varint_up_to b at 9 (omega (arith, within)) (omega arith) all (lt-ltb _ _ low) in
    let e : at + 9 + 1 ≡ at + 10 = omega arith in (h.0, subst (λ (z : ℕ). Reads (here b at None) h.0 (here b z None)) e h.1)
  where
    by : (k : ℕ) → at ≤ k → k < at + 9 → (k < at + 8) ⊎ (at + 8 ≤ k) → ends_varint b k ≡ false
    by k from to (inl h) = before k from h
    by k from to (inr h) = let e : k ≡ at + 8 = omega (arith, to, h) in ap (ends_varint b) e ∙ le-ltb _ _ high

-- ---- varints one after another

one_more_byte : (x : ℕ) (s : List ℕ) → 128 ≤ x → EndsOnce s → EndsOnce (x ∷ s)
one_more_byte x [] high e = absurd e
one_more_byte x (y ∷ ys) high e = (high, e)

longer : (x : ℕ) (s : List ℕ) → 128 ≤ x → length s ≤ 9 → IsElement a_varint s → IsElement a_varint (x ∷ s)
longer x s high few (IsElement.varint_element v) =
    IsElement.varint_element {n = groups_value (x ∷ s) % 2 ^ 64} (record { size = omega (arith, few); ends = one_more_byte x s high v.ends; value = refl })

-- a byte before varints of which the first is short enough
begins_longer : (x : ℕ) (s : List ℕ) → 128 ≤ x → 0 < length s → length s ≤ 9 → AreElements a_varint s → AreElements a_varint (x ∷ s)
begins_longer x s high some few no_elements = absurd (omega (arith, some))
begins_longer x s high some few (element {first = first} {others} one rest is) =
    let n : length first ≤ 9 = let e = ap length is in let sum = length-append first others in omega (arith, e, sum, few) in
    element (longer x first high n one) rest (ap (λ (z : List ℕ). x ∷ z) is)

-- there is no byte, or the last is below 128
abbrev EndsLow : List ℕ → Type 0
EndsLow [] = Unit {0}
EndsLow (x ∷ []) = x < 128
EndsLow (x ∷ y ∷ ys) = EndsLow (y ∷ ys)

one_byte : (x : ℕ) → x < 128 → IsElement a_varint (x ∷ [])
one_byte x low = IsElement.varint_element {n = groups_value (x ∷ []) % 2 ^ 64} (record { size = omega arith; ends = low; value = refl })

-- ten bytes at most, however many varints they are
few_bytes : (s : List ℕ) → length s ≤ 10 → EndsLow s → AreElements a_varint s
few_bytes [] few e = no_elements
few_bytes (x ∷ []) few e = element (one_byte x e) no_elements refl
few_bytes (x ∷ y ∷ ys) few e = by (cases_lt x 128) (few_bytes (y ∷ ys) (omega (arith, few)) e)
  where
    by : (x < 128) ⊎ (128 ≤ x) → AreElements a_varint (y ∷ ys) → AreElements a_varint (x ∷ y ∷ ys)
    by (inl low) rest = element (one_byte x low) rest refl
    by (inr high) rest = begins_longer x (y ∷ ys) high (omega arith) (omega (arith, few)) rest

both_elements : {e : Element} (s t : List ℕ) → AreElements e s → AreElements e t → AreElements e (s ++ t)
both_elements s t no_elements after = after
both_elements s t (element {first = first} {others} one rest is) after =
    element one (both_elements others t rest after) (ap (λ (z : List ℕ). z ++ t) is ∙ append_assoc first others t)

ends_low : (s : List ℕ) (n : ℕ) → n < length s → slice_index s n < 128 → EndsLow (take (suc n) s)
ends_low [] n l low = absurd (omega (arith, l))
ends_low (x ∷ xs) zero l low = low
ends_low (x ∷ []) (suc n) l low = absurd (omega (arith, l))
ends_low (x ∷ y ∷ ys) (suc n) l low = ends_low (y ∷ ys) n (omega (arith, l)) low

-- ten bytes more at most, of which the last ends a varint
pub whole_up_to :
    (b : List ℕ) (from to : ℕ) → AreElements a_varint (take from b) → from ≤ to → to ≤ length b → to ≤ from + 10
    → (from < to → ends_varint b (to - 1) ≡ true) → AreElements a_varint (take to b)
whole_up_to b from to whole rises within few last = by (cases_lt from to)
  where
    by : (from < to) ⊎ (to ≤ from) → AreElements a_varint (take to b)
    by (inr none) = let same : from ≡ to = omega (arith, rises, none) in subst (λ (z : ℕ). AreElements a_varint (take z b)) same whole
    by (inl some) =
        let n : ℕ = to - from - 1 in
        let s : List ℕ = drop from b in
        let left : suc n ≤ length s = let e = length-drop from b in omega (arith, e, within, some) in
        let size : length (take (suc n) s) ≡ suc n = length-take-le (suc n) s left in
        let there : from + n ≡ to - 1 = omega (arith, some) in
        let low : slice_index s n < 128 = subst (λ (z : ℕ). z < 128) (sym (get_or-drop from b n 0 ∙ ap (slice_index b) there)) (ltb-true _ _ (last some)) in
        let all : from + suc n ≡ to = omega (arith, some) in
        subst (λ (z : ℕ). AreElements a_varint (take z b)) all
        (subst (AreElements a_varint) (sym (take-add from (suc n) b))
        (both_elements (take from b) (take (suc n) s) whole (few_bytes (take (suc n) s) (omega (arith, size, few, some)) (ends_low s n left low))))

-- eight bytes more, of which the first and the last that end a varint are known
pub begun_after_eight :
    (b : List ℕ) (at begun first last : ℕ) → at + 8 ≤ length b → Begun b at begun → begun + first ≤ 9 → first < 8
    → IsFirstPlace (ends_varint b) at (at + 8) (at + first) → last < 8 → IsLastPlace (ends_varint b) at (at + 8) (at + (8 - last)) → Begun b (at + 8) last
begun_after_eight b at begun first last within from few is_near is_first is_far is_last =
    let hit : ends_varint b (at + first) ≡ true = is_first.hit (omega (arith, is_near)) in
    let there = from.there in
    let one : AreElements a_varint (take (at + first + 1) b) =
    whole_up_to b (at - begun) (at + first + 1) from.whole (omega arith) (omega (arith, within, is_near)) (omega (arith, few, there))
    (λ _. let e : at + first ≡ at + first + 1 - 1 = omega arith in ap (ends_varint b) (sym e) ∙ hit) in
    let order : at + first + 1 ≤ at + (8 - last) = in_order (cases_lt (at + first) (at + (8 - last))) in
    let all = whole_up_to b (at + first + 1) (at + (8 - last)) one order (omega (arith, within)) (omega arith) (λ h. is_last.hit (omega (arith, h))) in
    let e : at + (8 - last) ≡ at + 8 - last = omega (arith, is_far) in
    record { few = omega (arith, is_far); there = omega (arith, is_far); whole = subst (λ (z : ℕ). AreElements a_varint (take z b)) e all }
  where
    in_order : (at + first < at + (8 - last)) ⊎ (at + (8 - last) ≤ at + first) → at + first + 1 ≤ at + (8 - last)
    in_order (inl h) = omega (arith, h)
    in_order (inr h) = absurd (true≢false (sym (is_first.hit (omega (arith, is_near))) ∙ is_last.after (at + first) h (omega (arith, is_near))))

-- one byte more
pub begun_after_last : (b : List ℕ) (at begun : ℕ) → at < length b → Begun b at begun → slice_index b at < 128 → Begun b (at + 1) 0
begun_after_last b at begun within from low =
    let there = from.there in
    let few = from.few in
    let e : at ≡ at + 1 - 1 = omega arith in
    let all : at + 1 ≡ at + 1 - 0 = omega arith in
    let whole = whole_up_to b (at - begun) (at + 1) from.whole (omega arith) (omega (arith, within)) (omega (arith, few, there))
    (λ _. ap (ends_varint b) (sym e) ∙ lt-ltb _ _ low) in
    record { few = omega arith; there = omega arith; whole = subst (λ (z : ℕ). AreElements a_varint (take z b)) all whole }
