-- Floats, as they are written.
use Rattle.std.proofs.Common.{◌≡◌, ℕ, ◌<◌, Bool, true, false, cond, List, [], ◌∷◌, ◌++◌, length, refl, sym, ap, ap₂, ◌∙◌, arith, to_bits, Some}
use Rattle.std.proofs.lemmas.Float.Parse.{parse_float-text_of}
use Rattle.std.specs.Float.{Float, Format, float_is_finite}
use Rattle.std.specs.Fmt.{sign_text}
use Rattle.std.specs.Str.Parse.{digits_value}
use Rattle.fast_float.specs.Parse.{parse_float}
use Rattle.fast_float.specs.Text.{Parts, text_of, nearest as nearest_to_parts, exponent_text as kit_exponent}
use Rattle.ryu.specs.Plain.{IsPlain, IsPlainNumber}
use Rattle.pb_json_scalars.specs.Numbers.{IsFloatText, IsNumber, Number, Sign, none, minus, down_by, exponent_text, fraction_text, minus_text, nearest, number_text, up_by}

sign_of : Bool → Sign
sign_of true = minus
sign_of false = none

number_of : Bool → Parts → Number
number_of negative p = record { negative = negative; whole = p.whole; fraction = p.fraction; upper = false; sign = sign_of p.exponent_negative; exponent = p.exponent }

same_sign : (negative : Bool) → sign_text negative ≡ minus_text negative
same_sign true = refl
same_sign false = refl

same_fraction : (point : Bool) (f : List ℕ) → (point ≡ true → 0 < length f) → (point ≡ false → f ≡ []) → cond point (46 ∷ f) [] ≡ fraction_text f
same_fraction true [] some without = absurd (let h = some refl in omega arith)
same_fraction true (d ∷ ds) some without = refl
same_fraction false f some without = sym (ap fraction_text (without refl))

same_exponent : (negative : Bool) (ds : List ℕ) → kit_exponent negative ds ≡ exponent_text false (sign_of negative) ds
unfolding sign_of
same_exponent negative [] = refl
same_exponent true (d ∷ ds) = refl
same_exponent false (d ∷ ds) = refl

same_powers : (negative : Bool) (ds : List ℕ)
    → (up_by (sign_of negative) ds ≡ cond negative 0 (digits_value 10 ds)) × (down_by (sign_of negative) ds ≡ cond negative (digits_value 10 ds) 0)
unfolding sign_of
same_powers true ds = (refl, refl)
same_powers false ds = (refl, refl)

text_is : (negative : Bool) (p : Parts) → IsPlain p → sign_text negative ++ text_of p ≡ number_text (number_of negative p)
unfolding number_of
text_is negative p h =
    ap₂ (λ (a b : List ℕ). a ++ b) (same_sign negative)
    (ap₂ (λ (a b : List ℕ). p.whole ++ (a ++ b)) (same_fraction p.point p.fraction h.fraction h.well_formed.no_point) (same_exponent p.exponent_negative p.exponent))

nearest_is : (f : Format) (negative : Bool) (p : Parts) → nearest_to_parts f negative p ≡ nearest f (number_of negative p)
unfolding number_of
nearest_is f negative p = let e = same_powers p.exponent_negative p.exponent in rw (e.0, e.1) refl

pub float_read : (f : Format) (x : Float) (s : List ℕ) → IsPlainNumber s → parse_float f s ≡ Some x → float_is_finite x ≡ true → IsFloatText f s (to_bits f x)
unfolding number_of
float_read f x s (negative, p, text, plain) parses finite =
    let read : Some x ≡ Some (nearest_to_parts f negative p) =
    sym parses ∙ ap (parse_float f) text ∙ parse_float-text_of f negative p plain.well_formed plain.whole in
    let same : x ≡ nearest_to_parts f negative p = cc in
    let near : x ≡ nearest f (number_of negative p) = same ∙ nearest_is f negative p in
    let is : IsNumber s (number_of negative p) = record {
      whole = ((plain.whole, plain.well_formed.whole_digits), plain.no_leading_zero);
      fraction = plain.well_formed.fraction_digits;
      exponent = plain.well_formed.exponent_digits;
      text = text ∙ text_is negative p plain;
    } in
    (number_of negative p, is, ap float_is_finite (sym near) ∙ finite, ap (to_bits f) near)
