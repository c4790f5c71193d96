-- Numbers and points in time, as they are written, are numbers and strings of JSON.
use Rattle.std.proofs.Common.{◌≡◌, ℕ, zero, suc, ◌+◌, ◌/◌, ◌%◌, ◌^◌, ◌<◌, ◌≤◌, Bool, true, false, cond, eqb, ◌&&◌, List, [], ◌∷◌, ◌++◌, length, get_or, IsUtf8, ◌⊎◌, inl, inr, refl, sym, ap, ap₂, ◌∙◌, subst, arith, append-nil, leb-true, codes, ℤ, pos, negsuc, FitsSigned, w64, decimal}
use Rattle.std.proofs.lemmas.Bool.{agree_below_at, and_parts}
use Rattle.std.proofs.lemmas.Bool.Decides.{eqb_tells}
use Rattle.std.proofs.lemmas.Fmt.{decimal_is_IsNumeral, first_decimal}
use Rattle.std.proofs.lemmas.Int.{ints}
use Rattle.std.proofs.lemmas.List.Folds.{list_all-append}
use Rattle.std.proofs.lemmas.Str.{IsUtf8-append, IsUtf8-nil}
use Rattle.std.proofs.lemmas.Str.Parse.{digit_from_value}
use Rattle.std.specs.Fmt.{digits, sign_text, signed_decimal}
use Rattle.std.specs.List.{list_all}
use Rattle.std.specs.Str.Parse.{AllDigits}
use Rattle.fast_float.proofs.DigitsLemmas.{is_digit}
use Rattle.fast_float.specs.Text.{exponent_text}
use Rattle.jiff_core.specs.Calendar.{IsCivilDate}
use Rattle.jiff_core.proofs.CalendarLemmas.{days_in_month_bounds}
use Rattle.ryu.specs.Plain.{IsPlainNumber}
use Rattle.pb_json.specs.Times.{IsInstantText, date_text, fraction, is_between, is_instant, three_digits, time_text, two_digits}
use Rattle.pb_json_text.specs.Grammar.{AreDigits, IsExponent, IsFraction, IsMinus, IsNumber, IsSign, IsWhole}
use Rattle.pb_json_text.proofs.NumberLemmas.{digit_range}
use Rattle.pb_json_round_trip.specs.Texts.{is_plain}
use Rattle.pb_json_round_trip.proofs.CharacterLaws.{ascii_utf8, byte_utf8}

-- ---- digits

are_digits : (ds : List ℕ) → AllDigits 10 ds → AreDigits ds
are_digits [] h = tt
are_digits (d ∷ ds) h = let r = digit_from_value d h.0 in ((is_digit d r.0 r.1).0, are_digits ds h.1)

alone : (ds : List ℕ) → suc (length ds) ≡ 1 → ds ≡ []
alone [] e = refl
alone (d ∷ ds) e = absurd (omega arith)

whole_is : (ds : List ℕ) → 0 < length ds → AllDigits 10 ds → (get_or ds 0 0 ≡ 48 → length ds ≡ 1) → IsWhole ds
whole_is [] some all lead = absurd (omega arith)
whole_is (d ∷ ds) some all lead =
    let are = are_digits (d ∷ ds) all in
    elim (eqb_tells d 48) [
      | inl e ↦ inl (ap₂ (λ (x : ℕ) (xs : List ℕ). x ∷ xs) e.1 (alone ds (lead e.1)))
      | inr e ↦ inr (d, ds, refl, are.0, e.0, are.1)
    ]

-- ---- integers

one_zero : length (decimal 0) ≡ 1
unfolding digits
one_zero = refl

decimal_whole : (n : ℕ) → n < 2 ^ 64 → IsWhole (decimal n)
decimal_whole zero small = let h = (decimal_is_IsNumeral zero small).0 in whole_is (decimal zero) h.0 h.1 (λ e. one_zero)
decimal_whole (suc n) small =
    let h = (decimal_is_IsNumeral (suc n) small).0 in
    whole_is (decimal (suc n)) h.0 h.1 (λ e. absurd (let first = first_decimal (suc n) (omega arith) small in omega arith))

integer : (minus ds : List ℕ) → IsMinus minus → IsWhole ds → IsNumber (minus ++ ds)
integer minus ds sign whole = record {
  minus = minus;
  whole = ds;
  fraction = [];
  exponent = [];
  joined = ap (λ (l : List ℕ). minus ++ l) (sym (append-nil ds));
  is_minus = sign;
  is_whole = whole;
  is_fraction = inl refl;
  is_exponent = inl refl;
}

pub natural_number : (n : ℕ) → n < 2 ^ 64 → IsNumber (decimal n)
natural_number n small = integer [] (decimal n) (inl refl) (decimal_whole n small)

pub signed_number : (z : ℤ) → FitsSigned w64 z → IsNumber (signed_decimal z)
signed_number (pos n) fits = natural_number n (omega (arith, ints, fits))
signed_number (negsuc n) fits = integer (codes "-") (decimal (suc n)) (inr refl) (decimal_whole (suc n) (omega (arith, ints, fits)))

-- ---- floats

sign_is : (negative : Bool) → IsMinus (sign_text negative)
sign_is true = inr refl
sign_is false = inl refl

fraction_is : (point : Bool) (ds : List ℕ) → AllDigits 10 ds → (point ≡ true → 0 < length ds) → IsFraction (cond point (46 ∷ ds) [])
fraction_is false ds all some = inl refl
fraction_is true [] all some = absurd (let h = some refl in omega arith)
fraction_is true (d ∷ ds) all some = inr (d, ds, refl, are_digits (d ∷ ds) all)

exponent_sign : (negative : Bool) → IsSign (sign_text negative)
exponent_sign true = inr (inl refl)
exponent_sign false = inl refl

exponent_is : (negative : Bool) (ds : List ℕ) → AllDigits 10 ds → IsExponent (exponent_text negative ds)
exponent_is negative [] all = inl refl
exponent_is negative (d ∷ ds) all = inr (101, sign_text negative, d, ds, refl, inl refl, exponent_sign negative, are_digits (d ∷ ds) all)

pub real_number : (s : List ℕ) → IsPlainNumber s → IsNumber s
real_number s (negative, p, text, plain) = record {
  minus = sign_text negative;
  whole = p.whole;
  fraction = cond p.point (46 ∷ p.fraction) [];
  exponent = exponent_text p.exponent_negative p.exponent;
  joined = text;
  is_minus = sign_is negative;
  is_whole = whole_is p.whole plain.whole plain.well_formed.whole_digits plain.no_leading_zero;
  is_fraction = fraction_is p.point p.fraction plain.well_formed.fraction_digits plain.fraction;
  is_exponent = exponent_is p.exponent_negative p.exponent plain.well_formed.exponent_digits;
}

-- ---- numbers are UTF-8

digits_utf8 : (ds : List ℕ) → AreDigits ds → IsUtf8 ds
digits_utf8 [] h = IsUtf8-nil
digits_utf8 (d ∷ ds) h = let r = digit_range d h.0 in byte_utf8 d ds (omega arith) (digits_utf8 ds h.1)

minus_utf8 : (s : List ℕ) → IsMinus s → IsUtf8 s
minus_utf8 s (inl e) = rw e IsUtf8-nil
minus_utf8 s (inr e) = rw e (ascii_utf8 (codes "-") refl)

whole_utf8 : (s : List ℕ) → IsWhole s → IsUtf8 s
whole_utf8 s (inl e) = rw e (ascii_utf8 (codes "0") refl)
whole_utf8 s (inr (x, ds, e, digit, not_zero, are)) = rw e (digits_utf8 (x ∷ ds) (digit, are))

fraction_utf8 : (s : List ℕ) → IsFraction s → IsUtf8 s
fraction_utf8 s (inl e) = rw e IsUtf8-nil
fraction_utf8 s (inr (x, ds, e, are)) = rw e (byte_utf8 46 (x ∷ ds) (omega arith) (digits_utf8 (x ∷ ds) are))

sign_utf8 : (s : List ℕ) → IsSign s → IsUtf8 s
sign_utf8 s (inl e) = rw e IsUtf8-nil
sign_utf8 s (inr (inl e)) = rw e (ascii_utf8 (codes "-") refl)
sign_utf8 s (inr (inr e)) = rw e (ascii_utf8 (codes "+") refl)

exponent_utf8 : (s : List ℕ) → IsExponent s → IsUtf8 s
exponent_utf8 s (inl e) = rw e IsUtf8-nil
exponent_utf8 s (inr (letter, sign, x, ds, e, is_letter, is_sign, are)) =
    rw e (byte_utf8 letter (sign ++ x ∷ ds) (below is_letter) (IsUtf8-append sign (x ∷ ds) (sign_utf8 sign is_sign) (digits_utf8 (x ∷ ds) are)))
  where
    below : (letter ≡ 101) ⊎ (letter ≡ 69) → letter < 128
    below (inl e) = omega arith
    below (inr e) = omega arith

pub number_utf8 : (s : List ℕ) → IsNumber s → IsUtf8 s
number_utf8 s n =
    subst IsUtf8 (sym n.joined)
    (IsUtf8-append n.minus (n.whole ++ (n.fraction ++ n.exponent)) (minus_utf8 n.minus n.is_minus)
    (IsUtf8-append n.whole (n.fraction ++ n.exponent) (whole_utf8 n.whole n.is_whole)
    (IsUtf8-append n.fraction n.exponent (fraction_utf8 n.fraction n.is_fraction) (exponent_utf8 n.exponent n.is_exponent))))

-- ---- points in time

-- no byte needs an escape
record NeedsNone (s : List ℕ) : Type 0 where
  is : list_all is_plain s ≡ true

joined : {s t : List ℕ} → NeedsNone s → NeedsNone t → NeedsNone (s ++ t)
joined {s} {t} p q = record { is = list_all-append is_plain s t ∙ ap₂ (λ (a b : Bool). a && b) p.is q.is }

known : (s : List ℕ) → list_all is_plain s ≡ true → NeedsNone s
known s h = record { is = h }

plain_digit : (x : ℕ) → x < 10 → is_plain (48 + x) ≡ true
plain_digit x small = agree_below_at (λ n. is_plain (48 + n)) (λ n. true) 10 x refl small

two_plain : (n : ℕ) → n < 100 → NeedsNone (two_digits n)
two_plain n small = record { is = rw (plain_digit (n / 10) (omega arith), plain_digit (n % 10) (omega arith)) refl }

three_plain : (n : ℕ) → n < 1_000 → NeedsNone (three_digits n)
three_plain n small = record { is = rw (plain_digit (n / 100) (omega arith), plain_digit (n / 10 % 10) (omega arith), plain_digit (n % 10) (omega arith)) refl }

fraction_plain : (n : ℕ) → n < 1_000_000_000 → NeedsNone (fraction n)
fraction_plain n small = by_zeros (eqb n 0) (eqb (n % 1_000_000) 0) (eqb (n % 1_000) 0)
  where
    millis : NeedsNone (codes "." ++ three_digits (n / 1_000_000))
    millis = joined (known (codes ".") refl) (three_plain (n / 1_000_000) (omega arith))

    micros : NeedsNone ((codes "." ++ three_digits (n / 1_000_000)) ++ three_digits (n / 1_000 % 1_000))
    micros = joined millis (three_plain (n / 1_000 % 1_000) (omega arith))

    by_zeros : (x y z : Bool) → NeedsNone (cond x [] (cond y (codes "." ++ three_digits (n / 1_000_000))
        (cond z ((codes "." ++ three_digits (n / 1_000_000)) ++ three_digits (n / 1_000 % 1_000))
        (((codes "." ++ three_digits (n / 1_000_000)) ++ three_digits (n / 1_000 % 1_000)) ++ three_digits (n % 1_000)))))
    by_zeros true y z = known [] refl
    by_zeros false true z = millis
    by_zeros false false true = micros
    by_zeros false false false = joined micros (three_plain (n % 1_000) (omega arith))

date_plain : (y m d : ℕ) → y ≤ 9_999 → m ≤ 12 → d ≤ 31 → NeedsNone (date_text y m d)
date_plain y m d ly lm ld =
    joined (joined (joined (joined (joined (two_plain (y / 100) (omega arith)) (two_plain (y % 100) (omega arith))) (known (codes "-") refl))
    (two_plain m (omega arith))) (known (codes "-") refl)) (two_plain d (omega arith))

time_plain : (n : ℕ) → n < 86_400 → NeedsNone (time_text n)
time_plain n small =
    joined (joined (joined (joined (two_plain (n / 3_600) (omega arith)) (known (codes ":") refl)) (two_plain (n / 60 % 60) (omega arith)))
    (known (codes ":") refl)) (two_plain (n % 60) (omega arith))

month_day : (y m d : ℕ) → IsCivilDate (pos y) m d → (y ≤ 9_999) × (m ≤ 12) × (d ≤ 31)
month_day y m d (year, month, day) = let most = days_in_month_bounds (pos y) m in (omega (arith, ints, year.1), month.1, omega (arith, day.1, most.0))

pub instant_plain : (z : ℤ) (nanos : ℕ) (s : List ℕ) → nanos < 1_000_000_000 → IsInstantText z nanos s → list_all is_plain s ≡ true
instant_plain z nanos s small t =
    let date = t.is_date in
    let m = month_day date.year date.month date.day date.on_calendar in
    let day = date_plain date.year date.month date.day m.0 m.1 m.2 in
    let all = joined (joined (joined (joined (known t.date (ap (list_all is_plain) date.text ∙ day.is)) (known (codes "T") refl)) (time_plain t.second t.within))
    (fraction_plain nanos small)) (known (codes "Z") refl) in
    ap (list_all is_plain) t.text ∙ all.is

-- the nanoseconds of a point in time that is in range
pub instant_nanos : (z n : ℤ) → is_instant z n ≡ true → (k : ℕ) × (n ≡ pos k) × (k < 1_000_000_000)
instant_nanos z (pos n) h =
    let parts = and_parts (is_between (Rattle.std.specs.Prelude.neg_ℤ (pos 62_135_596_800)) (pos 253_402_300_799) z) (is_between (pos 0) (pos 999_999_999) (pos n)) h in
    let both = and_parts (Rattle.std.specs.Prelude.int_le (pos 0) (pos n)) (Rattle.std.specs.Prelude.int_le (pos n) (pos 999_999_999)) parts.1 in
    let low : n ≤ 999_999_999 = leb-true n 999_999_999 both.1 in
    (n, refl, omega arith)
instant_nanos z (negsuc n) h =
    let parts = and_parts (is_between (Rattle.std.specs.Prelude.neg_ℤ (pos 62_135_596_800)) (pos 253_402_300_799) z) (is_between (pos 0) (pos 999_999_999) (negsuc n)) h in
    let both = and_parts (Rattle.std.specs.Prelude.int_le (pos 0) (negsuc n)) (Rattle.std.specs.Prelude.int_le (negsuc n) (pos 999_999_999)) parts.1 in
    absurd (let no : false ≡ true = both.0 in cc)
