-- Digits by the numbers that they count.
use Rattle.std.proofs.Common.{◌≡◌, ◌≢◌, ℕ, ◌+◌, ◌-◌, ◌<◌, ◌≤◌, Bool, true, false, Some, None, ltb, ltb-true, lt-ltb, refl, arith, ◌⊎◌, inl, inr}
use Rattle.std.specs.Char.{digit_value, is_digit, IsDigitOf}
use Rattle.pb_source_tokens.specs.Texts.{digit_of}

pub digit_there : (base c : ℕ) → digit_value c < base → digit_of base c ≡ Some (digit_value c)
digit_there base c l = rw (lt-ltb (digit_value c) base l) refl

pub digit_not : (base c : ℕ) → is_digit c base ≡ false → digit_of base c ≡ None
digit_not base c h = rw h refl

pub digit_below : (base c v : ℕ) → digit_of base c ≡ Some v → v < base
digit_below base c v h = by_test (ltb (digit_value c) base) refl h
  where
    by_test : (b : Bool) → ltb (digit_value c) base ≡ b → (Rattle.std.specs.Prelude.if◌then◌else◌ b (Some (digit_value c)) None) ≡ Some v → v < base
    by_test true e h = let s : digit_value c ≡ v = cc h in let l = ltb-true (digit_value c) base e in omega arith
    by_test false e h = absurd (cc h)

-- where the digits and letters stand
value_is : (c : ℕ) → IsDigitOf c (digit_value c) ⊎ (digit_value c ≡ 36)
value_is c = by_tests (ltb c 48) (ltb c 58) (ltb c 65) (ltb c 91) (ltb c 97) (ltb c 123) refl refl refl refl refl refl
  where
    less : (n : ℕ) → ltb c n ≡ true → c < n
    less n e = ltb-true c n e

    more : (n : ℕ) → ltb c n ≡ false → n ≤ c
    more n e = Rattle.std.proofs.Common.ltb-false c n e

    by_tests : (p q r s t u : Bool) → ltb c 48 ≡ p → ltb c 58 ≡ q → ltb c 65 ≡ r → ltb c 91 ≡ s → ltb c 97 ≡ t → ltb c 123 ≡ u
        → IsDigitOf c (digit_value c) ⊎ (digit_value c ≡ 36)
    by_tests true q r s t u hp hq hr hs ht hu = inr (rw hp refl)
    by_tests false true r s t u hp hq hr hs ht hu = let a = more 48 hp in let b = less 58 hq in inl (rw (hp, hq) (inl ((a, omega arith), omega arith)))
    by_tests false false true s t u hp hq hr hs ht hu = inr (rw (hp, hq, hr) refl)
    by_tests false false false true t u hp hq hr hs ht hu = let a = more 65 hr in let b = less 91 hs in inl (rw (hp, hq, hr, hs) (inr (inl ((a, omega arith), omega arith))))
    by_tests false false false false true u hp hq hr hs ht hu = inr (rw (hp, hq, hr, hs, ht) refl)
    by_tests false false false false false true hp hq hr hs ht hu = let a = more 97 ht in let b = less 123 hu in inl (rw (hp, hq, hr, hs, ht) (rw hu (inr (inr ((a, omega arith), omega arith)))))
    by_tests false false false false false false hp hq hr hs ht hu = inr (rw (hp, hq, hr, hs, ht) (rw hu refl))

pub octal_is : (c : ℕ) → digit_value c < 8 → c ≡ 48 + digit_value c
octal_is c l =
    elim (value_is c) [
      | inl (inl e) ↦ (let x = e.1 in omega arith)
      | inl (inr (inl e)) ↦ absurd (let x = e.1 in let y = e.0.0 in omega arith)
      | inl (inr (inr e)) ↦ absurd (let x = e.1 in let y = e.0.0 in omega arith)
      | inr e ↦ absurd (omega arith)
    ]

-- a digit of a base up to 16 is no line feed, no quote and no `\`
pub digit_apart : (base c : ℕ) → base ≤ 16 → digit_value c < base → (c ≢ 10) × (c ≢ 34) × (c ≢ 39) × (c ≢ 92)
digit_apart base c b l =
    elim (value_is c) [
      | inl (inl e) ↦ (let x = e.0.0 in let y = e.0.1 in ((λ z. omega arith), (λ z. omega arith), (λ z. omega arith), (λ z. omega arith)))
      | inl (inr (inl e)) ↦ (let x = e.0.0 in let y = e.1 in ((λ z. omega arith), (λ z. omega arith), (λ z. omega arith), (λ z. omega arith)))
      | inl (inr (inr e)) ↦ (let x = e.0.0 in ((λ z. omega arith), (λ z. omega arith), (λ z. omega arith), (λ z. omega arith)))
      | inr e ↦ absurd (omega arith)
    ]
