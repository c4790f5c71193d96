-- Digits as numbers, and fractions of a second.
use Rattle.std.proofs.Common.{◌≡◌, ℕ, ◌+◌, ◌-◌, ◌*◌, ◌^◌, ◌<◌, ◌≤◌, true, false, ◌&&◌, ltb, leb, List, length, drop, get_or, refl, sym, ap, ◌∙◌, arith, rules, inl, inr, lt-ltb, le-leb, ltb-true, Option, Some, None, Result, OkIff, subst, subst₂, ap₂, pow-add, mul-lt-mul_of_pos_right, ℤ, pos, ◌+ℤ◌, ◌-ℤ◌, ◌*ℤ◌, eq-eqb, slice_range}
use Rattle.std.specs.Int.{IsInRange}
use Rattle.std.proofs.lemmas.Int.{ints}
use Rattle.fast_float.proofs.ExactLemmas.{ten_to_pos}
use Rattle.jiff_core.specs.Calendar.{days_from_civil, days_in_month}
use Rattle.jiff_core.specs.Date.{epoch_day}
use Rattle.jiff_core.specs.declared.civil.date.Date.{Date}
use Rattle.std.proofs.lemmas.Bool.{cases_Bool, lt-leb, leb-true}
use Rattle.std.proofs.lemmas.Str.Parse.{IsNumeralModel, numerals_by_value, parse_digits, digits_value_short}
use Rattle.std.specs.Char.{is_ascii_digit}
use Rattle.std.specs.List.{list_all}
use Rattle.std.specs.Str.Parse.{digits_value, ParsesUnsigned}
use Rattle.pb_json_scalars.specs.Clock.{date_days, day_second, days_of, fraction_len, fraction_nanos, instant, instant_of, is_civil, natural, offset, timestamp}

own : IsNumeralModel (λ ds. list_all is_ascii_digit ds ≡ true) (digits_value 10)
own = numerals_by_value _ (search rules)

pub natural_parsed : {E : Type 0} (ds : List ℕ) (r : Result ℕ E) → list_all is_ascii_digit ds ≡ true → ParsesUnsigned 64 10 ds r
    → OkIff r ((0 < length ds) × (digits_value 10 ds < 2 ^ 64)) (digits_value 10 ds)
natural_parsed ds r all h = parse_digits own 64 ds r h all

module _ (most : ℕ) (ds : List ℕ) where
  pub natural_other : list_all is_ascii_digit ds ≡ false → natural most ds ≡ None
  natural_other e = rw e refl

  pub natural_is : (n : ℕ) → list_all is_ascii_digit ds ≡ true → 0 < length ds → n ≡ digits_value 10 ds → n ≤ most → natural most ds ≡ Some n
  natural_is n all some e below = rw (all, lt-ltb 0 (length ds) some, ← e, le-leb n most below) refl

  pub natural_above : (n : ℕ) → list_all is_ascii_digit ds ≡ true → n ≡ digits_value 10 ds → most < n → natural most ds ≡ None
  natural_above n all e above =
      elim (cases_Bool (ltb 0 (length ds))) [ inl some ↦ rw (all, some, ← e, lt-leb n most above) refl | inr none ↦ rw (all, none) refl ]

  pub natural_unread : list_all is_ascii_digit ds ≡ true → ¬ ((0 < length ds) × (digits_value 10 ds < 2 ^ 64)) → most < 2 ^ 64 → natural most ds ≡ None
  natural_unread all unread fits =
      elim (cases_Bool (ltb 0 (length ds))) [
        | inl some ↦ elim (cases_Bool (leb (digits_value 10 ds) most)) [
          | inl low ↦ absurd (unread (ltb-true 0 (length ds) some, omega (arith, leb-true (digits_value 10 ds) most low)))
          | inr high ↦ rw (all, some, high) refl
        ]
        | inr none ↦ rw (all, none) refl
      ]

  -- a number of few digits is small
  pub natural_short : (n k : ℕ) → natural most ds ≡ Some n → length ds ≤ k → n < 10 ^ k
  natural_short n k e short =
      elim (cases_Bool (list_all is_ascii_digit ds)) [
        | inl all ↦
            let below = digits_value_short own ds k all short in
            elim (cases_Bool (ltb 0 (length ds) && leb (digits_value 10 ds) most)) [
              | inl t ↦ let same : Some (digits_value 10 ds) ≡ Some n = rw (all, t) at e in let value : digits_value 10 ds ≡ n = cc in omega (arith, below)
              | inr f ↦ absurd (let no : None ≡ Some n = rw (all, f) at e in cc)
            ]
        | inr other ↦ absurd (let no : None ≡ Some n = rw other at e in cc)
      ]

-- ---- fractions

pub fraction_fits : (n k : ℕ) → n < 10 ^ k → k ≤ 9 → n * 10 ^ (9 - k) < 1_000_000_000
fraction_fits n k below few =
    let nine : k + (9 - k) ≡ 9 = omega arith in
    let parts : 10 ^ 9 ≡ 10 ^ k * 10 ^ (9 - k) = ap (λ (j : ℕ). 10 ^ j) (sym nine) ∙ pow-add 10 k (9 - k) in
    let more = mul-lt-mul_of_pos_right below (ten_to_pos (9 - k)) in
    omega (arith, parts, more)

-- ---- dates

civil_test : (y m d : ℕ) → IsInRange 1 12 m → IsInRange 1 (days_in_month (pos y) m) d → is_civil y m d ≡ true
civil_test y m d month day =
    rw (le-leb 1 m month.0, le-leb m 12 month.1, le-leb 1 d day.0, le-leb d (days_in_month (pos y) m) day.1) refl

pub days_found : (r : ℤ) (date : Date) (y m d : ℕ) → date.year ≡ pos y → pos date.month ≡ pos m → pos date.day ≡ pos d → r ≡ epoch_day date
    → Some r ≡ days_of (Some y) (Some m) (Some d)
days_found r date y m d ey em ed er =
    let month : date.month ≡ m = omega (arith, ints, em) in
    let day : date.day ≡ d = omega (arith, ints, ed) in
    let in_month : IsInRange 1 12 m = subst (IsInRange 1 12) month date.month_in in
    let limit : days_in_month date.year date.month ≡ days_in_month (pos y) m = ap₂ days_in_month ey month in
    let in_day : IsInRange 1 (days_in_month (pos y) m) d = subst₂ (λ (l x : ℕ). IsInRange 1 l x) limit day date.day_in in
    let same : r ≡ days_from_civil (pos y) m d =
    er ∙ ap (λ (z : ℤ). days_from_civil z date.month date.day) ey ∙ ap₂ (λ (a b : ℕ). days_from_civil (pos y) a b) month day in
    rw (civil_test y m d in_month in_day) (ap (λ (z : ℤ). Some z) same)

-- ---- points in time

pub instant_at : (days ahead : ℤ) (second nanos : ℕ) (a : Option ℕ) (b : Option ℤ) → Some nanos ≡ a → Some ahead ≡ b
    → instant (days *ℤ pos 86_400 +ℤ pos second -ℤ ahead) nanos ≡ instant_of (Some days) (Some second) a b
instant_at days ahead second nanos a b ea eb = ap₂ (λ (x : Option ℕ) (y : Option ℤ). instant_of (Some days) (Some second) x y) ea eb

pub timestamp_at : (s : List ℕ) (days : ℤ) (second : ℕ) → Some days ≡ date_days (slice_range s 0 10) → Some second ≡ day_second (slice_range s 11 19)
    → 20 ≤ length s → get_or s 10 0 ≡ 84
    → instant_of (Some days) (Some second) (fraction_nanos (drop 19 s)) (offset (drop (fraction_len (drop 19 s)) (drop 19 s))) ≡ timestamp s
timestamp_at s days second ed es long mark =
    rw (le-leb 20 (length s) long, eq-eqb (get_or s 10 0) 84 mark)
    (ap₂ (λ (x : Option ℤ) (y : Option ℕ). instant_of x y (fraction_nanos (drop 19 s)) (offset (drop (fraction_len (drop 19 s)) (drop 19 s)))) ed es)
