-- Points in time and lengths of time, as they are written.
use Rattle.std.proofs.Common.{◌≡◌, ℕ, suc, ◌+◌, ◌*◌, ◌/◌, ◌%◌, ◌^◌, ◌<◌, ◌≤◌, Bool, true, false, cond, not, ◌&&◌, eqb, ltb, leb, List, [], ◌∷◌, ◌++◌, length, take, drop, get_or, refl, ap, ap₂, ◌∙◌, inl, inr, arith, append_assoc, le-leb, le-ltb, ltb-false, leb-true, ne_eqb, take_at, drop_at, length-append, Option, Some, None, codes, decimal, ℤ, pos, negsuc, neg_ℤ, ◌+ℤ◌, ◌-ℤ◌, ◌*ℤ◌, int_lt, int_le}
use Rattle.std.proofs.lemmas.Bool.{cases_Bool, and_parts}
use Rattle.std.proofs.lemmas.Int.{ints}
use Rattle.std.proofs.lemmas.Fmt.{decimal_is_IsNumeral}
use Rattle.std.proofs.lemmas.Str.Parse.{digit_from_value}
use Rattle.std.specs.Char.{is_ascii_digit}
use Rattle.std.specs.List.{list_all, prefix_len}
use Rattle.std.specs.Str.Parse.{AllDigits}
use Rattle.std.specs.Str.{bytes_eq}
use Rattle.jiff_core.specs.Calendar.{IsCivilDate, days_from_civil}
use Rattle.jiff_core.proofs.CalendarLemmas.{days_in_month_bounds}
use Rattle.fast_float.proofs.DigitsLemmas.{is_digit}
use Rattle.pb_json.specs.Times.{IsInstantText, date_text, fraction, is_between, is_instant, is_span, sign, span_text, time_text, two_digits}
use Rattle.pb_json_scalars.specs.Clock.{days_of, duration, fraction_len, fraction_nanos, instant, instant_of, is_civil, natural, offset, second_of, signed_time, time, timestamp, unsigned_duration}
use Rattle.pb_json_round_trip.proofs.DigitLaws.{Read, Writes, digits_end, fraction_read, joined, natural_written, two_written}

-- ---- points in time

two_read : (most n : ℕ) → n < 100 → n ≤ most → natural most (two_digits n) ≡ Some n
two_read most n small low = natural_written most n (two_digits n) (two_written n small) (omega arith) low

year_read : (y : ℕ) → y ≤ 9_999 → natural 9_999 (two_digits (y / 100) ++ two_digits (y % 100)) ≡ Some y
year_read y low =
    let w = joined (two_digits (y / 100)) (two_digits (y % 100)) (y / 100) (y % 100) (two_written (y / 100) (omega arith)) (two_written (y % 100) (omega arith)) in
    let value : y / 100 * 100 + y % 100 ≡ y = omega arith in
    natural_written 9_999 y (two_digits (y / 100) ++ two_digits (y % 100)) (record { digits = w.digits; value = w.value ∙ value }) (omega arith) low

civil_is : (y m d : ℕ) → IsCivilDate (pos y) m d → is_civil y m d ≡ true
civil_is y m d (year, month, day) = rw (le-leb 1 m month.0, le-leb m 12 month.1, le-leb 1 d day.0, le-leb d _ day.1) refl

-- the parts of a point in time, each as it is read
parts_read : (a b c d e f g : Option ℕ) (h : Option ℤ) (year month day hour minute second : ℕ) → a ≡ Some year → b ≡ Some month → c ≡ Some day
    → d ≡ Some hour → e ≡ Some minute → f ≡ Some second → is_civil year month day ≡ true
    → instant_of (days_of a b c) (second_of d e f) g h ≡ instant_of (Some (days_from_civil (pos year) month day)) (Some (hour * 3_600 + minute * 60 + second)) g h
parts_read a b c d e f g h year month day hour minute second ea eb ec ed ee ef civil = rw (ea, eb, ec, ed, ee, ef) (rw civil refl)

head_read : (year month day second : ℕ) (rest : List ℕ) → 0 < length rest → year ≤ 9_999 → is_civil year month day ≡ true → month ≤ 12 → day ≤ 31 → second < 86_400
    → timestamp (((date_text year month day ++ codes "T") ++ time_text second) ++ rest)
    ≡ instant_of (Some (days_from_civil (pos year) month day)) (Some second) (fraction_nanos rest) (offset (drop (fraction_len rest) rest))
head_read year month day second rest some low civil lm ld within =
    let long : leb 20 (length (((date_text year month day ++ codes "T") ++ time_text second) ++ rest)) ≡ true = le-leb 20 _ (omega arith) in
    let sum : second / 3_600 * 3_600 + second / 60 % 60 * 60 + second % 60 ≡ second = omega arith in
    rw long
    (parts_read _ _ _ _ _ _ (fraction_nanos rest) (offset (drop (fraction_len rest) rest)) year month day (second / 3_600) (second / 60 % 60) (second % 60)
    (year_read year low) (two_read 99 month (omega arith) (omega arith)) (two_read 99 day (omega arith) (omega arith))
    (two_read 23 (second / 3_600) (omega arith) (omega arith)) (two_read 59 (second / 60 % 60) (omega arith) (omega arith))
    (two_read 59 (second % 60) (omega arith) (omega arith)) civil
    ∙ ap (λ (k : ℕ). instant_of (Some (days_from_civil (pos year) month day)) (Some k) (fraction_nanos rest) (offset (drop (fraction_len rest) rest))) sum)

tail_read : (days : ℤ) (second nanos : ℕ) (rest : List ℕ) → Read rest nanos (codes "Z")
    → instant_of (Some days) (Some second) (fraction_nanos rest) (offset (drop (fraction_len rest) rest)) ≡ instant (days *ℤ pos 86_400 +ℤ pos second -ℤ pos 0) nanos
tail_read days second nanos rest r = rw (r.nanos_are, r.rest_is) refl

in_range : (seconds : ℤ) (nanos : ℕ) → is_instant seconds (pos nanos) ≡ true → instant seconds nanos ≡ Some (time seconds (pos nanos))
in_range seconds nanos h =
    let parts = and_parts (is_between (neg_ℤ (pos 62_135_596_800)) (pos 253_402_300_799) seconds) (is_between (pos 0) (pos 999_999_999) (pos nanos)) h in
    rw (parts.0) refl

nanos_small : (seconds : ℤ) (nanos : ℕ) → is_instant seconds (pos nanos) ≡ true → nanos < 1_000_000_000
nanos_small seconds nanos h =
    let parts = and_parts (is_between (neg_ℤ (pos 62_135_596_800)) (pos 253_402_300_799) seconds) (is_between (pos 0) (pos 999_999_999) (pos nanos)) h in
    let both = and_parts (int_le (pos 0) (pos nanos)) (int_le (pos nanos) (pos 999_999_999)) parts.1 in
    let low : nanos ≤ 999_999_999 = leb-true nanos 999_999_999 both.1 in
    omega arith

month_day : (y m d : ℕ) → IsCivilDate (pos y) m d → (m ≤ 12) × (d ≤ 31) × (y ≤ 9_999)
month_day y m d (year, month, day) = let most = days_in_month_bounds (pos y) m in (month.1, omega (arith, day.1, most.0), omega (arith, ints, year.1))

pub instant_read : (seconds : ℤ) (nanos : ℕ) (s : List ℕ) → is_instant seconds (pos nanos) ≡ true → IsInstantText seconds nanos s
    → timestamp s ≡ Some (time seconds (pos nanos))
instant_read seconds nanos s fits t =
    let date = t.is_date in
    let m = month_day date.year date.month date.day date.on_calendar in
    let small = nanos_small seconds nanos fits in
    let rest = fraction nanos ++ codes "Z" in
    let r = fraction_read 90 refl refl nanos small in
    let text : s ≡ ((date_text date.year date.month date.day ++ codes "T") ++ time_text t.second) ++ rest =
    t.text ∙ ap (λ (l : List ℕ). (((l ++ codes "T") ++ time_text t.second) ++ fraction nanos) ++ codes "Z") date.text
    ∙ append_assoc ((date_text date.year date.month date.day ++ codes "T") ++ time_text t.second) (fraction nanos) (codes "Z") in
    let some : 0 < length rest = omega (arith, length-append (fraction nanos) (codes "Z")) in
    let same : days_from_civil (pos date.year) date.month date.day *ℤ pos 86_400 +ℤ pos t.second -ℤ pos 0 ≡ seconds =
    omega (arith, ints, t.counted, date.counted) in
    ap timestamp text
    ∙ head_read date.year date.month date.day t.second rest some m.2 (civil_is date.year date.month date.day date.on_calendar) m.0 m.1 t.within
    ∙ tail_read (days_from_civil (pos date.year) date.month date.day) t.second nanos rest r ∙ ap (λ (z : ℤ). instant z nanos) same ∙ in_range seconds nanos fits

-- ---- lengths of time

all_digits : (ds : List ℕ) → AllDigits 10 ds → list_all is_ascii_digit ds ≡ true
all_digits [] h = refl
all_digits (d ∷ ds) h = let r = digit_from_value d h.0 in rw ((is_digit d r.0 r.1).0) (all_digits ds h.1)

decimal_written : (n : ℕ) → n < 2 ^ 64 → Writes (decimal n) n
decimal_written n small = let h = decimal_is_IsNumeral n small in record { digits = all_digits (decimal n) h.0.1; value = h.1 }

no_digit_first : (nanos : ℕ) → prefix_len is_ascii_digit (fraction nanos ++ codes "s") ≡ 0
no_digit_first nanos =
    elim (cases_Bool (eqb nanos 0)) [
      | inl e ↦ rw e refl
      | inr e ↦ elim (cases_Bool (eqb (nanos % 1_000_000) 0)) [
        | inl f ↦ rw (e, f) refl
        | inr f ↦ elim (cases_Bool (eqb (nanos % 1_000) 0)) [ inl g ↦ rw (e, f, g) refl | inr g ↦ rw (e, f, g) refl ]
      ]
    ]

parts_of_span : (negative : Bool) (x : List ℕ) (a b : Option ℕ) (n nanos : ℕ) → x ≡ codes "s" → a ≡ Some n → b ≡ Some nanos
    → cond (bytes_eq x (codes "s")) (signed_time negative a b) None ≡ Some (cond negative (time (neg_ℤ (pos n)) (neg_ℤ (pos nanos))) (time (pos n) (pos nanos)))
parts_of_span negative x a b n nanos ex ea eb = rw (ex, ea, eb) refl

unsigned_read : (negative : Bool) (n nanos : ℕ) (s : List ℕ) → s ≡ decimal n ++ (fraction nanos ++ codes "s") → n ≤ 315_576_000_000 → nanos < 1_000_000_000
    → unsigned_duration negative (prefix_len is_ascii_digit s) s
    ≡ Some (cond negative (time (neg_ℤ (pos n)) (neg_ℤ (pos nanos))) (time (pos n) (pos nanos)))
unsigned_read negative n nanos s e low small =
    let w = decimal_written n (omega arith) in
    let rest = fraction nanos ++ codes "s" in
    let r = fraction_read 115 refl refl nanos small in
    let end : prefix_len is_ascii_digit s ≡ length (decimal n) =
    ap (λ (l : List ℕ). prefix_len is_ascii_digit l) e ∙ digits_end (decimal n) rest w.digits (no_digit_first nanos) in
    let front : take (prefix_len is_ascii_digit s) s ≡ decimal n = ap₂ (λ (k : ℕ) (l : List ℕ). take k l) end e ∙ take_at (decimal n) rest (length (decimal n)) refl in
    let back : drop (prefix_len is_ascii_digit s) s ≡ rest = ap₂ (λ (k : ℕ) (l : List ℕ). drop k l) end e ∙ drop_at (decimal n) rest (length (decimal n)) refl in
    let some = (decimal_is_IsNumeral n (omega arith)).0.0 in
    parts_of_span negative _ _ _ n nanos (ap (λ (l : List ℕ). drop (fraction_len l) l) back ∙ r.rest_is)
    (ap (natural 315_576_000_000) front ∙ natural_written 315_576_000_000 n (decimal n) w some low)
    (ap fraction_nanos back ∙ r.nanos_are)

first_digit : (ds rest : List ℕ) → AllDigits 10 ds → 0 < length ds → eqb (get_or (ds ++ rest) 0 0) 45 ≡ false
first_digit [] rest h some = absurd (omega arith)
first_digit (d ∷ ds) rest h some = let r = digit_from_value d h.0 in ne_eqb d 45 (λ e. omega arith)

minus_read : (n nanos : ℕ) → n ≤ 315_576_000_000 → nanos < 1_000_000_000
    → duration (((sign true ++ decimal n) ++ fraction nanos) ++ codes "s") ≡ Some (time (neg_ℤ (pos n)) (neg_ℤ (pos nanos)))
minus_read n nanos low small = unsigned_read true n nanos ((decimal n ++ fraction nanos) ++ codes "s") (append_assoc (decimal n) (fraction nanos) (codes "s")) low small

plain_read : (n nanos : ℕ) → n ≤ 315_576_000_000 → nanos < 1_000_000_000
    → duration (((sign false ++ decimal n) ++ fraction nanos) ++ codes "s") ≡ Some (time (pos n) (pos nanos))
plain_read n nanos low small =
    let e = append_assoc (decimal n) (fraction nanos) (codes "s") in
    let h = (decimal_is_IsNumeral n (omega arith)).0 in
    let first : eqb (get_or ((decimal n ++ fraction nanos) ++ codes "s") 0 0) 45 ≡ false =
    ap (λ (l : List ℕ). eqb (get_or l 0 0) 45) e ∙ first_digit (decimal n) (fraction nanos ++ codes "s") h.1 h.0 in
    rw first (unsigned_read false n nanos ((decimal n ++ fraction nanos) ++ codes "s") e low small)

zero_of : (s : ℕ) → not (ltb 0 s && true) ≡ true → s ≡ 0
zero_of s h = elim (cases_Bool (ltb 0 s)) [ inl e ↦ absurd (let no : false ≡ true = rw e at h in cc) | inr e ↦ let low = ltb-false 0 s e in omega arith ]

zero_of' : (n : ℕ) → not (true && ltb 0 n) ≡ true → n ≡ 0
zero_of' n h = elim (cases_Bool (ltb 0 n)) [ inl e ↦ absurd (let no : false ≡ true = rw e at h in cc) | inr e ↦ let low = ltb-false 0 n e in omega arith ]

-- what is in range
pub record Span (s n : ℤ) : Type 0 where
  pub low : int_le (neg_ℤ (pos 315_576_000_000)) s ≡ true
  pub high : int_le s (pos 315_576_000_000) ≡ true
  pub nanos_low : int_le (neg_ℤ (pos 999_999_999)) n ≡ true
  pub nanos_high : int_le n (pos 999_999_999) ≡ true
  pub not_below : not (int_lt s (pos 0) && int_lt (pos 0) n) ≡ true
  pub not_above : not (int_lt (pos 0) s && int_lt n (pos 0)) ≡ true

pub span_parts : (s n : ℤ) → is_span s n ≡ true → Span s n
span_parts s n h =
    let seconds = is_between (neg_ℤ (pos 315_576_000_000)) (pos 315_576_000_000) s in
    let nanos = is_between (neg_ℤ (pos 999_999_999)) (pos 999_999_999) n in
    let below = not (int_lt s (pos 0) && int_lt (pos 0) n) in
    let above = not (int_lt (pos 0) s && int_lt n (pos 0)) in
    let a = and_parts ((seconds && nanos) && below) above h in
    let b = and_parts (seconds && nanos) below a.0 in
    let c = and_parts seconds nanos b.0 in
    let d = and_parts (int_le (neg_ℤ (pos 315_576_000_000)) s) (int_le s (pos 315_576_000_000)) c.0 in
    let e = and_parts (int_le (neg_ℤ (pos 999_999_999)) n) (int_le n (pos 999_999_999)) c.1 in
    record { low = d.0; high = d.1; nanos_low = e.0; nanos_high = e.1; not_below = b.1; not_above = a.1 }

pub span_read : (seconds nanos : ℤ) → is_span seconds nanos ≡ true → duration (span_text seconds nanos) ≡ Some (time seconds nanos)
span_read (pos s) (pos n) h =
    let p = span_parts (pos s) (pos n) h in
    let low : s ≤ 315_576_000_000 = leb-true s 315_576_000_000 p.high in
    let small : n ≤ 999_999_999 = leb-true n 999_999_999 p.nanos_high in
    rw (le-ltb s 0 (omega arith), le-ltb n 0 (omega arith)) (plain_read s n low (omega arith))
span_read (negsuc s) (negsuc n) h =
    let p = span_parts (negsuc s) (negsuc n) h in
    let low : s ≤ 315_575_999_999 = leb-true s 315_575_999_999 p.low in
    let small : n ≤ 999_999_998 = leb-true n 999_999_998 p.nanos_low in
    minus_read (suc s) (suc n) (omega arith) (omega arith)
span_read (pos s) (negsuc n) h =
    let p = span_parts (pos s) (negsuc n) h in
    let small : n ≤ 999_999_998 = leb-true n 999_999_998 p.nanos_low in
    let zero_seconds : s ≡ 0 = zero_of s p.not_above in
    rw (zero_seconds, le-ltb 0 0 (omega arith)) (minus_read 0 (suc n) (omega arith) (omega arith))
span_read (negsuc s) (pos n) h =
    let p = span_parts (negsuc s) (pos n) h in
    let low : s ≤ 315_575_999_999 = leb-true s 315_575_999_999 p.low in
    let zero_nanos : n ≡ 0 = zero_of' n p.not_below in
    rw zero_nanos (minus_read (suc s) 0 (omega arith) (omega arith))
