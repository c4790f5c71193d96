-- Digits of two and three, and fractions of a second.
use Rattle.std.proofs.Common.{◌≡◌, ℕ, suc, ◌+◌, ◌-◌, ◌*◌, ◌/◌, ◌%◌, ◌^◌, ◌<◌, ◌≤◌, true, false, eqb, List, [], ◌∷◌, ◌++◌, length, drop, refl, sym, ap, ap₂, ◌∙◌, inl, inr, arith, one-add, le-leb, eqb-true, take_at, drop_at, Some, option_map, codes}
use Rattle.std.proofs.lemmas.Bool.{cases_Bool, and_parts}
use Rattle.std.specs.Char.{is_ascii_digit, digit_value}
use Rattle.std.specs.List.{list_all, prefix_len}
use Rattle.std.specs.Str.Parse.{digits_value}
use Rattle.fast_float.proofs.DigitsLemmas.{digits_value-append, is_digit}
use Rattle.pb_json.specs.Times.{fraction, three_digits, two_digits}
use Rattle.pb_json_scalars.specs.Clock.{fraction_len, fraction_nanos, natural}
use Rattle.pb_json_scalars.proofs.ClockLemmas.{natural_is}

-- the digit of a number below ten
digit : (x : ℕ) → x < 10 → (is_ascii_digit (48 + x) ≡ true) × (digit_value (48 + x) ≡ x)
digit x small = let d = is_digit (48 + x) (omega arith) (omega arith) in (d.0, d.1 ∙ omega arith)

-- digits that write a number
pub record Writes (ds : List ℕ) (n : ℕ) : Type 0 where
  pub digits : list_all is_ascii_digit ds ≡ true
  pub value : digits_value 10 ds ≡ n

pub two_written : (n : ℕ) → n < 100 → Writes (two_digits n) n
two_written n small =
    let a = digit (n / 10) (omega arith) in
    let b = digit (n % 10) (omega arith) in
    record { digits = rw (a.0, b.0) refl; value = rw (a.1, b.1) (omega arith) }

pub three_written : (n : ℕ) → n < 1_000 → Writes (three_digits n) n
three_written n small =
    let a = digit (n / 100) (omega arith) in
    let b = digit (n / 10 % 10) (omega arith) in
    let c = digit (n % 10) (omega arith) in
    record { digits = rw (a.0, b.0, c.0) refl; value = rw (a.1, b.1, c.1) (omega arith) }

all_joined : (xs ys : List ℕ) → list_all is_ascii_digit xs ≡ true → list_all is_ascii_digit ys ≡ true → list_all is_ascii_digit (xs ++ ys) ≡ true
all_joined [] ys p q = q
all_joined (x ∷ xs) ys p q = let parts = and_parts (is_ascii_digit x) (list_all is_ascii_digit xs) p in rw (parts.0) (all_joined xs ys parts.1 q)

pub joined : (xs ys : List ℕ) (m n : ℕ) → Writes xs m → Writes ys n → Writes (xs ++ ys) (m * 10 ^ length ys + n)
joined xs ys m n p q = record {
  digits = all_joined xs ys p.digits q.digits;
  value = digits_value-append xs ys ∙ ap₂ (λ (a b : ℕ). a * 10 ^ length ys + b) p.value q.value;
}

pub natural_written : (most n : ℕ) (ds : List ℕ) → Writes ds n → 0 < length ds → n ≤ most → natural most ds ≡ Some n
natural_written most n ds w some low = natural_is most ds n w.digits some (sym w.value) low

pub digits_end : (ds rest : List ℕ) → list_all is_ascii_digit ds ≡ true → prefix_len is_ascii_digit rest ≡ 0 → prefix_len is_ascii_digit (ds ++ rest) ≡ length ds
digits_end [] rest all none = none
digits_end (d ∷ ds) rest all none =
    let parts = and_parts (is_ascii_digit d) (list_all is_ascii_digit ds) all in
    rw (parts.0) (rw (one-add (prefix_len is_ascii_digit (ds ++ rest))) (ap suc (digits_end ds rest parts.1 none)))

-- a fraction and what follows it, as they are read
pub record Read (r : List ℕ) (nanos : ℕ) (rest : List ℕ) : Type 0 where
  pub nanos_are : fraction_nanos r ≡ Some nanos
  pub rest_is : drop (fraction_len r) r ≡ rest

module _ (last : ℕ) (other : is_ascii_digit last ≡ false) where
  with_digits : (ds : List ℕ) (n nanos : ℕ) → Writes ds n → 0 < length ds → length ds ≤ 9 → n ≤ 999_999_999 → n * 10 ^ (9 - length ds) ≡ nanos
      → Read (46 ∷ (ds ++ last ∷ [])) nanos (last ∷ [])
  with_digits ds n nanos w some few low e =
      let end : prefix_len is_ascii_digit (ds ++ last ∷ []) ≡ length ds = digits_end ds (last ∷ []) w.digits (rw other refl) in
      let next : 1 + length ds ≡ suc (length ds) = one-add (length ds) in
      let same : suc (length ds) - 1 ≡ length ds = omega arith in
      let number = natural_written 999_999_999 n ds w some low in
      record {
        nanos_are =
            rw (end, next, same, take_at ds (last ∷ []) (length ds) refl, le-leb (length ds) 9 few)
            (ap (option_map (λ k. k * 10 ^ (9 - length ds))) number ∙ ap (λ (k : ℕ). Some k) e);
        rest_is = rw (end, next) (drop_at ds (last ∷ []) (length ds) refl);
      }

  -- the nanoseconds that are written
  pub fraction_read : eqb last 46 ≡ false → (nanos : ℕ) → nanos < 1_000_000_000 → Read (fraction nanos ++ last ∷ []) nanos (last ∷ [])
  fraction_read no_point nanos small =
      elim (cases_Bool (eqb nanos 0)) [
        | inl none ↦ rw none (record { nanos_are = rw no_point (ap (λ (k : ℕ). Some k) (sym (eqb-true nanos 0 none))); rest_is = rw no_point refl })
        | inr some ↦ elim (cases_Bool (eqb (nanos % 1_000_000) 0)) [
          | inl milli ↦ rw (some, milli) (millis (nanos / 1_000_000) (omega arith) (omega (arith, eqb-true (nanos % 1_000_000) 0 milli)))
          | inr other ↦ elim (cases_Bool (eqb (nanos % 1_000) 0)) [
            | inl micro ↦ rw (some, other, micro) (micros (nanos / 1_000_000) (nanos / 1_000 % 1_000) (omega arith) (omega arith) (omega (arith, eqb-true (nanos % 1_000) 0 micro)))
            | inr nano ↦ rw (some, other, nano) (whole (nanos / 1_000_000) (nanos / 1_000 % 1_000) (nanos % 1_000) (omega arith) (omega arith) (omega arith) (omega arith))
          ]
        ]
      ]
    where
      millis : (a : ℕ) → a < 1_000 → a * 1_000_000 ≡ nanos → Read ((codes "." ++ three_digits a) ++ last ∷ []) nanos (last ∷ [])
      millis a la e = with_digits (three_digits a) a nanos (three_written a la) (omega arith) (omega arith) (omega arith) e

      micros : (a b : ℕ) → a < 1_000 → b < 1_000 → (a * 1_000 + b) * 1_000 ≡ nanos
          → Read (((codes "." ++ three_digits a) ++ three_digits b) ++ last ∷ []) nanos (last ∷ [])
      micros a b la lb e =
          with_digits (three_digits a ++ three_digits b) (a * 1_000 + b) nanos (joined (three_digits a) (three_digits b) a b (three_written a la) (three_written b lb))
          (omega arith) (omega arith) (omega arith) e

      whole : (a b c : ℕ) → a < 1_000 → b < 1_000 → c < 1_000 → (a * 1_000 + b) * 1_000 + c ≡ nanos
          → Read ((((codes "." ++ three_digits a) ++ three_digits b) ++ three_digits c) ++ last ∷ []) nanos (last ∷ [])
      whole a b c la lb lc e =
          with_digits ((three_digits a ++ three_digits b) ++ three_digits c) ((a * 1_000 + b) * 1_000 + c) nanos
          (joined (three_digits a ++ three_digits b) (three_digits c) (a * 1_000 + b) c
          (joined (three_digits a) (three_digits b) a b (three_written a la) (three_written b lb)) (three_written c lc))
          (omega arith) (omega arith) (omega arith) (omega (arith, e))
