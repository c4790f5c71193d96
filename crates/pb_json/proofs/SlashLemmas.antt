-- A text before and after the last character of a kind, as `rsplit_once` gives it.
use Rattle.std.proofs.Common.{◌≡◌, ℕ, zero, suc, ◌+◌, ◌-◌, ◌<◌, ◌≤◌, List, length, get_or, take, drop, Some, None, MatchOption, Bor, refl, sym, ap, ap₂, ◌∙◌, arith}
use Rattle.std.proofs.Common.{eq-eqb, ne_eqb, ltb, ltb-true, length-drop, get_or-drop}
use Rattle.std.specs.Prelude.{Bool, true, false, Option, option_map, if◌then◌else◌}
use Rattle.std.specs.Path.{rfind_below, rsplit_once}
use Rattle.std.specs.Str.Pattern.{RFindsChar}
use Rattle.std.proofs.lemmas.Bool.{ltb-false}
use Rattle.std.proofs.lemmas.Str.{len_utf8_ascii}
use Rattle.std.proofs.lemmas.Str.Pattern.{NoCharPasses-char}

module _ (c : ℕ) (text : List ℕ) where
  abbrev either : ℕ → Bool → Option ℕ
  either n here = if here then Some n else rfind_below c text n

  none_below : (n : ℕ) → n ≤ length text → ((k : ℕ) → k < length text → get_or text k 0 ≡ c → ⊥) → rfind_below c text n ≡ None
  none_below zero fits all = refl
  none_below (suc n) fits all = ap (either n) (ne_eqb _ _ (all n (omega (arith, fits)))) ∙ none_below n (omega (arith, fits)) all

  last_step :
      (i n : ℕ) (less : Bool) → ltb i n ≡ less → i < suc n → suc n ≤ length text → get_or text i 0 ≡ c
      → ((k : ℕ) → i < k → k < length text → get_or text k 0 ≡ c → ⊥) → (i < n → rfind_below c text n ≡ Some i) → rfind_below c text (suc n) ≡ Some i
  last_step i n true e below fits is later before =
      let less = ltb-true i n e in ap (either n) (ne_eqb _ _ (later n less (omega (arith, fits)))) ∙ before less
  last_step i n false e below fits is later before =
      let last : n ≡ i = omega (arith, below, ltb-false i n e) in
      ap (either n) (eq-eqb _ _ (ap (λ (k : ℕ). get_or text k 0) last ∙ is)) ∙ ap (λ (k : ℕ). Some k) last

  last_below :
      (i n : ℕ) → i < n → n ≤ length text → get_or text i 0 ≡ c → ((k : ℕ) → i < k → k < length text → get_or text k 0 ≡ c → ⊥) → rfind_below c text n ≡ Some i
  last_below i zero below fits is later = absurd (omega (arith, below))
  last_below i (suc n) below fits is later =
      last_step i n (ltb i n) refl below fits is later (λ less. last_below i n less (omega (arith, fits)) is later)

-- takes the clause of `rsplit_once` at an ASCII character
pub split_last : (c : ℕ) (text : List ℕ) (r : Option (Bor (List ℕ) × Bor (List ℕ)))
    → MatchOption r (RFindsChar c text None) (λ x. (i : ℕ) × (j : ℕ) × RFindsChar c text (Some (i, j)) × (x.0.now ≡ take i text) × (x.1.now ≡ drop j text)
    × (i ≤ j) × (length x.0.now ≡ i) × (length x.1.now + j ≡ length text))
    → c < 128 → option_map (λ x. (x.0.now, x.1.now)) r ≡ rsplit_once c text
unfolding rsplit_once
split_last c text None h low =
    sym (ap (option_map (λ k. (take k text, drop (k + 1) text))) (none_below c text (length text) (omega arith) (λ k l e. NoCharPasses-char c text k h low l e)))
split_last c text (Some x) h low =
    let i = h.0 in let j = h.1 in
    let next : j ≡ i + 1 = omega (arith, h.2.1.ends, len_utf8_ascii c low) in
    let inside : i < length text = omega (arith, next, h.7) in
    let later : (k : ℕ) → i < k → k < length text → get_or text k 0 ≡ c → ⊥ = λ k after l e.
    let back : j + (k - j) ≡ k = omega (arith, next, after) in
    NoCharPasses-char c (drop j text) (k - j) h.2.0 low (omega (arith, next, after, l, length-drop j text))
    (get_or-drop j text (k - j) 0 ∙ ap (λ (n : ℕ). get_or text n 0) back ∙ e) in
    let found = last_below c text i (length text) inside (omega arith) (h.2.1.byte low) later in
    ap₂ (λ (a b : List ℕ). Some (a, b)) h.3 (h.4 ∙ ap (λ (n : ℕ). drop n text) next)
    ∙ sym (ap (option_map (λ k. (take k text, drop (k + 1) text))) found)
