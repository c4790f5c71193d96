-- What the parts of a number accept is a number.
use Rattle.std.proofs.Common.{◌≡◌, ℕ, ◌<◌, ◌≤◌, List, [], ◌∷◌, ◌++◌, Bool, true, false, ◌==◌, Option, Some, None, refl, sym, ap, ◌∙◌, subst, arith, ◌⊎◌, inl, inr}
use Rattle.std.proofs.lemmas.Bool.Decides.{eqb_tells, leb_tells}
use Rattle.std.specs.Char.{is_ascii_digit}
use Rattle.pb_json_text.specs.Grammar.{AreDigits, IsMinus, IsWhole, IsFraction, IsSign, IsExponent, IsNumber}
use Rattle.pb_json_text.specs.Loops.Machine.{number_next, whole_next, letter_next, part_next, is_final}
use Rattle.pb_json_text.specs.declared.number.NumberPart.{NumberPart}
use Rattle.pb_json_text.specs.declared.number.NumberPart.TheVariants.{Start, Minus, Zero, Whole, Point, Fraction, Letter, Sign, Exponent}

abbrev pub then_ok : Option NumberPart → (NumberPart → Bool) → Bool
then_ok None f = false
then_ok (Some q) f = f q

-- the bytes are the rest of a number after a part
abbrev pub number_ok : NumberPart → List ℕ → Bool
number_ok part [] = is_final part
number_ok part (x ∷ xs) = then_ok (number_next part x) (λ q. number_ok q xs)

-- DIGITS

pub digit_range : (x : ℕ) → is_ascii_digit x ≡ true → (48 ≤ x) × (x ≤ 57)
digit_range x h =
    elim (leb_tells 48 x) [
      | inl a ↦ elim (leb_tells x 57) [ inl b ↦ (a.1, b.1) | inr b ↦ absurd (cc (rw (a.0, b.0) at h)) ]
      | inr a ↦ absurd (cc (rw a.0 at h))
    ]

-- a digit is no other byte
pub digit_not : (x n : ℕ) → is_ascii_digit x ≡ true → (n < 48) ⊎ (57 < n) → (x == n) ≡ false
digit_not x n h apart =
    let r = digit_range x h in
    elim (eqb_tells x n) [
      | inl e ↦ absurd (elim apart [ inl a ↦ (let s = e.1 in let k = r.0 in omega arith) | inr a ↦ (let s = e.1 in let k = r.1 in omega arith) ])
      | inr e ↦ e.0
    ]

digits_exponent : (ds : List ℕ) → AreDigits ds → number_ok Exponent ds ≡ true
digits_exponent [] d = refl
digits_exponent (x ∷ ds) d = rw d.0 (digits_exponent ds d.1)

digits_fraction : (ds rest : List ℕ) → AreDigits ds → number_ok Fraction rest ≡ true → number_ok Fraction (ds ++ rest) ≡ true
digits_fraction [] rest d h = h
digits_fraction (x ∷ ds) rest d h = rw d.0 (digits_fraction ds rest d.1 h)

digits_whole : (ds rest : List ℕ) → AreDigits ds → number_ok Whole rest ≡ true → number_ok Whole (ds ++ rest) ≡ true
digits_whole [] rest d h = h
digits_whole (x ∷ ds) rest d h = rw d.0 (digits_whole ds rest d.1 h)

-- FROM NUMBERS

sign_ok : (x : ℕ) (ds : List ℕ) → AreDigits (x ∷ ds) → number_ok Sign (x ∷ ds) ≡ true
sign_ok x ds d = rw d.0 (digits_exponent ds d.1)

letter_ok : (sign : List ℕ) (x : ℕ) (ds : List ℕ) → IsSign sign → AreDigits (x ∷ ds) → number_ok Letter (sign ++ x ∷ ds) ≡ true
letter_ok sign x ds (inl s) d =
    subst (λ (w : List ℕ). number_ok Letter (w ++ x ∷ ds) ≡ true) (sym s)
    (rw (digit_not x 45 d.0 (inl (omega arith))) (rw (digit_not x 43 d.0 (inl (omega arith))) (rw d.0 (digits_exponent ds d.1))))
letter_ok sign x ds (inr (inl s)) d = subst (λ (w : List ℕ). number_ok Letter (w ++ x ∷ ds) ≡ true) (sym s) (sign_ok x ds d)
letter_ok sign x ds (inr (inr s)) d = subst (λ (w : List ℕ). number_ok Letter (w ++ x ∷ ds) ≡ true) (sym s) (sign_ok x ds d)

exponent_ok :
    (part : NumberPart) (e : List ℕ) → is_final part ≡ true → number_next part 101 ≡ Some Letter → number_next part 69 ≡ Some Letter → IsExponent e
    → number_ok part e ≡ true
exponent_ok part e f a b (inl s) = subst (λ (w : List ℕ). number_ok part w ≡ true) (sym s) f
exponent_ok part e f a b (inr (letter, sign, x, ds, s, inl l, is_sign, d)) =
    subst (λ (w : List ℕ). number_ok part w ≡ true) (sym (s ∙ ap (λ (n : ℕ). n ∷ (sign ++ x ∷ ds)) l)) (rw a (letter_ok sign x ds is_sign d))
exponent_ok part e f a b (inr (letter, sign, x, ds, s, inr l, is_sign, d)) =
    subst (λ (w : List ℕ). number_ok part w ≡ true) (sym (s ∙ ap (λ (n : ℕ). n ∷ (sign ++ x ∷ ds)) l)) (rw b (letter_ok sign x ds is_sign d))

tail_ok : (part : NumberPart) (f e : List ℕ) → number_next part 46 ≡ Some Point → number_ok part e ≡ true → IsFraction f → IsExponent e → number_ok part (f ++ e) ≡ true
tail_ok part f e a h (inl s) is_e = subst (λ (w : List ℕ). number_ok part (w ++ e) ≡ true) (sym s) h
tail_ok part f e a h (inr (x, ds, s, d)) is_e =
    subst (λ (w : List ℕ). number_ok part (w ++ e) ≡ true) (sym s)
    (rw a (rw d.0 (digits_fraction ds e d.1 (exponent_ok Fraction e refl refl refl is_e))))

whole_ok :
    (part : NumberPart) (w f e : List ℕ) → ((x : ℕ) → is_ascii_digit x ≡ true → number_next part x ≡ whole_next x) → IsWhole w → IsFraction f → IsExponent e
    → number_ok part (w ++ (f ++ e)) ≡ true
whole_ok part w f e a (inl s) is_f is_e =
    subst (λ (v : List ℕ). number_ok part (v ++ (f ++ e)) ≡ true) (sym s)
    (rw (a 48 refl) (tail_ok Zero f e refl (exponent_ok Zero e refl refl refl is_e) is_f is_e))
whole_ok part w f e a (inr (x, ds, s, is_digit, not_zero, d)) is_f is_e =
    subst (λ (v : List ℕ). number_ok part (v ++ (f ++ e)) ≡ true) (sym s)
    (rw (a x is_digit) (rw not_zero (rw is_digit (digits_whole ds (f ++ e) d (tail_ok Whole f e refl (exponent_ok Whole e refl refl refl is_e) is_f is_e)))))

from_start : (x : ℕ) → is_ascii_digit x ≡ true → number_next Start x ≡ whole_next x
from_start x h = rw (digit_not x 45 h (inl (omega arith))) refl

minus_ok : (m w f e : List ℕ) → IsMinus m → IsWhole w → IsFraction f → IsExponent e → number_ok Start (m ++ (w ++ (f ++ e))) ≡ true
minus_ok m w f e (inl s) is_w is_f is_e =
    subst (λ (v : List ℕ). number_ok Start (v ++ (w ++ (f ++ e))) ≡ true) (sym s) (whole_ok Start w f e from_start is_w is_f is_e)
minus_ok m w f e (inr s) is_w is_f is_e =
    subst (λ (v : List ℕ). number_ok Start (v ++ (w ++ (f ++ e))) ≡ true) (sym s) (whole_ok Minus w f e (λ x h. refl) is_w is_f is_e)

pub number_accepted : (d : List ℕ) → IsNumber d → number_ok Start d ≡ true
number_accepted d n = rw n.joined (minus_ok n.minus n.whole n.fraction n.exponent n.is_minus n.is_whole n.is_fraction n.is_exponent)

-- TO NUMBERS

by_digit : {X : Type 0} (x : ℕ) → (is_ascii_digit x ≡ true → X) → (is_ascii_digit x ≡ false → X) → X
by_digit {X} x f g = by_test (is_ascii_digit x) refl
  where
    by_test : (b : Bool) → is_ascii_digit x ≡ b → X
    by_test true e = f e
    by_test false e = g e

exponent_digits : (ds : List ℕ) → number_ok Exponent ds ≡ true → AreDigits ds
exponent_digits [] h = tt
exponent_digits (x ∷ ds) h = by_digit x (λ e. (e, exponent_digits ds (rw e at h))) (λ e. absurd (cc (rw e at h)))

abbrev SomeDigits : List ℕ → Type 0
SomeDigits w = (x : ℕ) × (ds : List ℕ) × (w ≡ x ∷ ds) × AreDigits (x ∷ ds)

sign_digits : (w : List ℕ) → number_ok Sign w ≡ true → SomeDigits w
sign_digits [] h = absurd (cc h)
sign_digits (x ∷ ds) h = by_digit x (λ e. (x, ds, refl, (e, exponent_digits ds (rw e at h)))) (λ e. absurd (cc (rw e at h)))

abbrev SignedDigits : List ℕ → Type 0
SignedDigits w = (sign : List ℕ) × (x : ℕ) × (ds : List ℕ) × (w ≡ sign ++ x ∷ ds) × IsSign sign × AreDigits (x ∷ ds)

signed_from : (y : ℕ) (w : List ℕ) → IsSign (y ∷ []) → SomeDigits w → SignedDigits (y ∷ w)
signed_from y w s (x, ds, e, d) = (y ∷ [], x, ds, ap (λ (v : List ℕ). y ∷ v) e, s, d)

letter_digits : (w : List ℕ) → number_ok Letter w ≡ true → SignedDigits w
letter_digits [] h = absurd (cc h)
letter_digits (x ∷ w) h =
    elim (eqb_tells x 45) [
      | inl a ↦ signed_from x w (inr (inl (ap (λ (n : ℕ). n ∷ []) a.1))) (sign_digits w (rw a.0 at h))
      | inr a ↦ (let h2 = rw a.0 at h in elim (eqb_tells x 43) [
        | inl b ↦ signed_from x w (inr (inr (ap (λ (n : ℕ). n ∷ []) b.1))) (sign_digits w (rw b.0 at h2))
        | inr b ↦ (let h3 = rw b.0 at h2 in by_digit x (λ e. ([], x, w, refl, inl refl, (e, exponent_digits w (rw e at h3)))) (λ e. absurd (cc (rw e at h3))))
      ])
    ]

exponent_from : (x : ℕ) (w : List ℕ) → then_ok (letter_next x) (λ q. number_ok q w) ≡ true → IsExponent (x ∷ w)
exponent_from x w h =
    elim (eqb_tells x 101) [
      | inl a ↦ (let s = letter_digits w (rw a.0 at h) in inr (x, s.0, s.1, s.2, ap (λ (v : List ℕ). x ∷ v) s.3, inl a.1, s.4, s.5))
      | inr a ↦ (let h2 = rw a.0 at h in elim (eqb_tells x 69) [
        | inl b ↦ (let s = letter_digits w (rw b.0 at h2) in inr (x, s.0, s.1, s.2, ap (λ (v : List ℕ). x ∷ v) s.3, inr b.1, s.4, s.5))
        | inr b ↦ absurd (cc (rw b.0 at h2))
      ])
    ]

abbrev DigitsThenExponent : List ℕ → Type 0
DigitsThenExponent w = (ds e : List ℕ) × (w ≡ ds ++ e) × AreDigits ds × IsExponent e

fraction_parts : (w : List ℕ) → number_ok Fraction w ≡ true → DigitsThenExponent w
fraction_parts [] h = ([], [], refl, tt, inl refl)
fraction_parts (x ∷ w) h =
    by_digit x
    (λ t. let r = fraction_parts w (rw t at h) in (x ∷ r.0, r.1, ap (λ (v : List ℕ). x ∷ v) r.2, (t, r.3), r.4))
    (λ t. ([], x ∷ w, refl, tt, exponent_from x w (rw t at h)))

abbrev Tail : List ℕ → Type 0
Tail w = (f e : List ℕ) × (w ≡ f ++ e) × IsFraction f × IsExponent e

point_parts : (w : List ℕ) → number_ok Point w ≡ true → Tail (46 ∷ w)
point_parts [] h = absurd (cc h)
point_parts (x ∷ w) h =
    by_digit x
    (λ t. let r = fraction_parts w (rw t at h) in (46 ∷ x ∷ r.0, r.1, ap (λ (v : List ℕ). 46 ∷ x ∷ v) r.2, inr (x, r.0, refl, (t, r.3)), r.4))
    (λ t. absurd (cc (rw t at h)))

tail_from : (x : ℕ) (w : List ℕ) → then_ok (part_next x) (λ q. number_ok q w) ≡ true → Tail (x ∷ w)
tail_from x w h =
    elim (eqb_tells x 46) [
      | inl a ↦ subst (λ (n : ℕ). Tail (n ∷ w)) (sym a.1) (point_parts w (rw a.0 at h))
      | inr a ↦ ([], x ∷ w, refl, inl refl, exponent_from x w (rw a.0 at h))
    ]

zero_parts : (w : List ℕ) → number_ok Zero w ≡ true → Tail w
zero_parts [] h = ([], [], refl, inl refl, inl refl)
zero_parts (x ∷ w) h = tail_from x w h

abbrev DigitsThenTail : List ℕ → Type 0
DigitsThenTail w = (ds t : List ℕ) × (w ≡ ds ++ t) × AreDigits ds × Tail t

whole_parts : (w : List ℕ) → number_ok Whole w ≡ true → DigitsThenTail w
whole_parts [] h = ([], [], refl, tt, ([], [], refl, inl refl, inl refl))
whole_parts (x ∷ w) h =
    by_digit x
    (λ t. let r = whole_parts w (rw t at h) in (x ∷ r.0, r.1, ap (λ (v : List ℕ). x ∷ v) r.2, (t, r.3), r.4))
    (λ t. ([], x ∷ w, refl, tt, tail_from x w (rw t at h)))

abbrev Unsigned : List ℕ → Type 0
Unsigned w = (v t : List ℕ) × (w ≡ v ++ t) × IsWhole v × Tail t

whole_from : (x : ℕ) (w : List ℕ) → then_ok (whole_next x) (λ q. number_ok q w) ≡ true → Unsigned (x ∷ w)
whole_from x w h =
    elim (eqb_tells x 48) [
      | inl a ↦ (x ∷ [], w, refl, inl (ap (λ (n : ℕ). n ∷ []) a.1), zero_parts w (rw a.0 at h))
      | inr a ↦ (let h2 = rw a.0 at h in by_digit x
          (λ t. let r = whole_parts w (rw t at h2) in (x ∷ r.0, r.1, ap (λ (v : List ℕ). x ∷ v) r.2, inr (x, r.0, refl, t, a.0, r.3), r.4))
          (λ t. absurd (cc (rw t at h2))))
    ]

minus_parts : (w : List ℕ) → number_ok Minus w ≡ true → Unsigned w
minus_parts [] h = absurd (cc h)
minus_parts (x ∷ w) h = whole_from x w h

number_of_parts : (m w : List ℕ) → IsMinus m → Unsigned w → IsNumber (m ++ w)
number_of_parts m w is_m (v, t, e, is_v, (f, x, s, is_f, is_x)) = record {
  minus = m;
  whole = v;
  fraction = f;
  exponent = x;
  joined = ap (λ (u : List ℕ). m ++ u) (e ∙ ap (λ (u : List ℕ). v ++ u) s);
  is_minus = is_m;
  is_whole = is_v;
  is_fraction = is_f;
  is_exponent = is_x;
}

pub accepted_number : (d : List ℕ) → number_ok Start d ≡ true → IsNumber d
accepted_number [] h = absurd (cc h)
accepted_number (x ∷ w) h =
    elim (eqb_tells x 45) [
      | inl a ↦ number_of_parts (x ∷ []) w (inr (ap (λ (n : ℕ). n ∷ []) a.1)) (minus_parts w (rw a.0 at h))
      | inr a ↦ number_of_parts [] (x ∷ w) (inl refl) (whole_from x w (rw a.0 at h))
    ]
