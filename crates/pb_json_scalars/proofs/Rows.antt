-- Rows that pin the definitions, each worked by hand or by Python.
use Rattle.std.proofs.Common.{◌≡◌, ℕ, ℤ, Bool, List, ◌++◌, length, get_or, true, false, [], ◌∷◌, refl, sym, ap, ap₂, ◌∙◌, subst, Some, None, codes, pos, negsuc, arith, lit<}
use Rattle.std.specs.Float.{binary32, binary64, fin, float_is_finite, inf, nan}
use Rattle.std.specs.Float.Ieee.{round}
use Rattle.fast_float.specs.Text.{nearest as nearest_to_parts, scan}
use Rattle.jiff_core.specs.Calendar.{day_count, days_from_civil, days_of_months, days_of_years}
use Rattle.pb_json_scalars.specs.Base64.{base64_bytes}
use Rattle.pb_json_scalars.specs.Clock.{date_days, day_second, duration, offset, time, timestamp}
use Rattle.pb_json_scalars.specs.Keys.{IsKeyText, bool_key}
use Rattle.pb_json_scalars.specs.Numbers.{Equals, IsFloatText, IsInt, Number, float_word, minus, minus_text, nearest, none, number_text, plus}
use Rattle.pb_json_scalars.specs.Paths.{between_commas, has_no_underscore, mask_paths, path_of, snake_case}
use Rattle.pb_json_scalars.specs.Scanned.{is_int, parts_of}
use Rattle.pb_json_scalars.proofs.FloatLemmas.{nearest_same}
use Rattle.pb_json_scalars.proofs.ScanLemmas.{minus_of, scanned}

-- ---- numbers

number_row : number_text (record { negative = true; whole = codes "12"; fraction = codes "50"; upper = true; sign = plus; exponent = codes "03" }) ≡ codes "-12.50E+03"
number_row = refl

plain_row : number_text (record { negative = false; whole = codes "0"; fraction = []; upper = false; sign = none; exponent = [] }) ≡ codes "0"
plain_row = refl

zeros_row : (is_int (codes "0") ≡ true) × (is_int (codes "10") ≡ true) × (is_int (codes "01") ≡ false) × (is_int [] ≡ false)
zeros_row = (refl, refl, refl, refl)

-- 1.5e1, -10e-1, -0
fifteen_row : Equals (record { negative = false; whole = codes "1"; fraction = codes "5"; upper = false; sign = none; exponent = codes "1" }) (pos 15)
fifteen_row = (15, refl, refl)

one_row : Equals (record { negative = true; whole = codes "10"; fraction = []; upper = false; sign = minus; exponent = codes "1" }) (negsuc 0)
one_row = (1, refl, refl)

zero_row : Equals (record { negative = true; whole = codes "0"; fraction = []; upper = false; sign = none; exponent = [] }) (pos 0)
zero_row = (0, refl, refl)

-- 12.5e-2 is 1/8; 1e39 is too large for a `float`
eighth_row : nearest binary64 (record { negative = false; whole = codes "12"; fraction = codes "5"; upper = false; sign = minus; exponent = codes "2" }) ≡ fin false 1 (negsuc 2)
unfolding round
eighth_row = refl

large_row : nearest binary32 (record { negative = true; whole = codes "1"; fraction = []; upper = false; sign = plus; exponent = codes "39" }) ≡ inf true
unfolding round
large_row = refl

words_row : (float_word (codes "NaN") ≡ Some nan) × (float_word (codes "Infinity") ≡ Some (inf false)) × (float_word (codes "-Infinity") ≡ Some (inf true)) × (float_word (codes "inf") ≡ None)
words_row = (refl, refl, refl, refl)

-- 1.5 equals no integer
half_row : (z : ℤ) → Equals (record { negative = false; whole = codes "1"; fraction = codes "5"; upper = false; sign = none; exponent = [] }) z → ⊥
half_row z (k, e, f) = omega (arith, f)

not_true : false ≡ true → ⊥
not_true e = absurd (cc)

-- 1e39 has no `float`: the nearest one would be an infinity
too_large_row : (bits : ℕ) → IsFloatText binary32 (codes "1e39") bits → ⊥
unfolding scan round float_is_finite
too_large_row bits (n, is, finite, same) =
    let m = minus_of (codes "1e39") n is in
    let parts = ap scan m.1 ∙ scanned n is.whole.0.1 is.fraction is.exponent in
    let near = ap₂ (nearest_to_parts binary32) m.0 parts ∙ nearest_same binary32 n in
    let e : float_is_finite (nearest_to_parts binary32 false (scan (codes "1e39"))) ≡ true = ap float_is_finite near ∙ finite in
    not_true e

-- a key has no 0 before another digit
strict_key : (negative : Bool) (ds : List ℕ) → IsInt ds → codes "01" ≡ minus_text negative ++ ds → ⊥
strict_key true ds int text = let e : 48 ≡ 45 = ap (λ (l : List ℕ). get_or l 0 0) text in absurd (omega (arith, e))
strict_key false ds int text = let e : 2 ≡ 1 = ap length text ∙ int.1 (sym (ap (λ (l : List ℕ). get_or l 0 0) text)) in absurd (omega (arith, e))

strict_key_row : (z : ℤ) → IsKeyText (codes "01") z → ⊥
strict_key_row z (negative, ds, int, text, e) = strict_key negative ds int text

minus_key_row : IsKeyText (codes "-10") (negsuc 9)
minus_key_row = (true, codes "10", ((lit< tt, (lit< tt, (lit< tt, tt))), λ e. absurd (omega (arith, e))), refl, refl)

keys_row : (bool_key (codes "true") ≡ Some true) × (bool_key (codes "false") ≡ Some false) × (bool_key (codes "True") ≡ None)
keys_row = (refl, refl, refl)

-- ---- base64 (RFC 4648, section 10)

foobar_row : (base64_bytes [] ≡ Some []) × (base64_bytes (codes "Zg==") ≡ Some (codes "f")) × (base64_bytes (codes "Zm8=") ≡ Some (codes "fo"))
    × (base64_bytes (codes "Zm9v") ≡ Some (codes "foo")) × (base64_bytes (codes "Zm9vYmFy") ≡ Some (codes "foobar"))
foobar_row = (refl, refl, refl, refl, refl)

no_padding_row : (base64_bytes (codes "Zg") ≡ Some (codes "f")) × (base64_bytes (codes "Zm8") ≡ Some (codes "fo")) × (base64_bytes (codes "Zg=") ≡ None) × (base64_bytes (codes "Z") ≡ None)
    × (base64_bytes (codes "Zm9v=") ≡ None) × (base64_bytes (codes "Z===") ≡ None)
no_padding_row = (refl, refl, refl, refl, refl, refl)

alphabets_row : (base64_bytes (codes "+/8=") ≡ Some (251 ∷ 255 ∷ [])) × (base64_bytes (codes "-_8=") ≡ Some (251 ∷ 255 ∷ [])) × (base64_bytes (codes "-_") ≡ Some (251 ∷ []))
    × (base64_bytes (codes "+_8=") ≡ Some (251 ∷ 255 ∷ [])) × (base64_bytes (codes "Zm 9v") ≡ None)
alphabets_row = (refl, refl, refl, refl, refl)

-- ---- times

day_row : (date_days (codes "1970-01-01") ≡ Some (pos 0)) × (date_days (codes "1969-12-31") ≡ Some (negsuc 0)) × (date_days (codes "2000-02-29") ≡ Some (pos 11016))
    × (date_days (codes "1900-02-29") ≡ None) × (date_days (codes "1970-1-001") ≡ None)
unfolding days_from_civil day_count days_of_years days_of_months
day_row = (refl, refl, refl, refl, refl)

clock_row : (day_second (codes "10:00:20") ≡ Some 36_020) × (day_second (codes "23:59:59") ≡ Some 86_399) × (day_second (codes "24:00:00") ≡ None) × (day_second (codes "23:59:60") ≡ None)
clock_row = (refl, refl, refl, refl)

offset_row : (offset (codes "Z") ≡ Some (pos 0)) × (offset (codes "+01:30") ≡ Some (pos 5_400)) × (offset (codes "-00:01") ≡ Some (negsuc 59)) × (offset (codes "z") ≡ None) × (offset (codes "+24:00") ≡ None)
offset_row = (refl, refl, refl, refl, refl)

timestamp_row : (timestamp (codes "1972-01-01T10:00:20.021Z") ≡ Some (time (pos 63_108_020) (pos 21_000_000)))
    × (timestamp (codes "1970-01-01T00:30:00+01:00") ≡ Some (time (negsuc 1_799) (pos 0))) × (timestamp (codes "1970-01-01T00:00:00.Z") ≡ None)
    × (timestamp (codes "1970-01-01T00:00:00.1234567891Z") ≡ None) × (timestamp (codes "1970-01-01t00:00:00Z") ≡ None)
unfolding days_from_civil day_count days_of_years days_of_months
timestamp_row = (refl, refl, refl, refl, refl)

-- a time whose offset leads out of the years 0001 to 9999, by a minute at either end, and one that ends within them
years_row : (timestamp (codes "9999-12-31T23:59:00-00:01") ≡ None) × (timestamp (codes "0001-01-01T00:00:59+00:01") ≡ None)
    × (timestamp (codes "9999-12-31T23:58:59-00:01") ≡ Some (time (pos 253_402_300_799) (pos 0))) × (timestamp (codes "0001-01-01T00:01:00+00:01") ≡ Some (time (negsuc 62_135_596_799) (pos 0)))
unfolding days_from_civil day_count days_of_years days_of_months
years_row = (refl, refl, refl, refl)

duration_row : (duration (codes "1.000340012s") ≡ Some (time (pos 1) (pos 340_012))) × (duration (codes "-0.5s") ≡ Some (time (pos 0) (negsuc 499_999_999)))
    × (duration (codes "-315576000000s") ≡ Some (time (negsuc 315_575_999_999) (pos 0))) × (duration (codes "315576000001s") ≡ None) × (duration (codes "1") ≡ None)
    × (duration (codes ".5s") ≡ None) × (duration (codes "1.s") ≡ None)
duration_row = (refl, refl, refl, refl, refl, refl, refl)

-- ---- paths

names_row : (between_commas (codes "fooBar,b.cD") ≡ codes "fooBar" ∷ codes "b.cD" ∷ []) × (between_commas (codes ",") ≡ [] ∷ [] ∷ [])
names_row = (refl, refl)

snake_row : (snake_case (codes "fooBar") ≡ codes "foo_bar") × (snake_case (codes "b.cD") ≡ codes "b.c_d") × (has_no_underscore (codes "foo_bar") ≡ false)
snake_row = (refl, refl, refl)

no_path_row : (path_of [] ≡ None) × (path_of (codes "foo_bar") ≡ None) × (mask_paths (codes ",a") ≡ None) × (mask_paths (codes ",") ≡ None) × (mask_paths [] ≡ Some [])
no_path_row = (refl, refl, refl, refl, refl)
