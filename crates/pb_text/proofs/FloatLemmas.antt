-- Floats.
use Rattle.std.proofs.Common.{◌≡◌, ℕ, List, [], ◌∷◌, ◌++◌, Some, Bool, refl, subst, arith, inl, inr}
use Rattle.std.specs.Prelude.{true, false, codes, if◌then◌else◌}
use Rattle.std.specs.Float.{float_is_finite}
use lib.Ieee.{Float, Format, nan, inf, fin, is_nan}
use Rattle.ryu.specs.Parse.{parse_float}
use Rattle.ryu.specs.Plain.{IsPlainNumber, word_of}
use Rattle.fast_float.specs.Text.{exponent_text, text_of}
use Rattle.std.specs.Str.Parse.{AllDigits}
use Rattle.pb_text.specs.Numbers.{AreDigits, IsExponent, IsFloatText, IsNumber, IsTail}

-- a plain number of the printer is a number of the text format
exponent_is : (negative : Bool) (digits : List ℕ) → AllDigits 10 digits → IsExponent (exponent_text negative digits)
exponent_is negative [] all = inl refl
exponent_is true (d ∷ ds) all = inr (45 ∷ d ∷ ds, refl, inr (inr (d ∷ ds, refl, (all, omega arith))))
exponent_is false (d ∷ ds) all = inr (d ∷ ds, refl, inl (all, omega arith))

tail_is : (point : Bool) (fraction : List ℕ) (exponent : List ℕ) → (point ≡ true → AreDigits fraction) → IsExponent exponent → IsTail ((if point then 46 ∷ fraction else []) ++ exponent)
tail_is true fraction exponent digits is = inr (fraction ++ exponent, refl, (fraction, exponent, refl, digits refl, is))
tail_is false fraction exponent digits is = inl is

pub plain_number : (s : List ℕ) → IsPlainNumber s → IsNumber s
plain_number s (negative, p, e, plain) =
    let formed = plain.well_formed in (
      negative,
      text_of p,
      e,
      (
        p.whole,
        _,
        refl,
        ((formed.whole_digits, plain.whole), plain.no_leading_zero),
        tail_is p.point p.fraction _ (λ point. (formed.fraction_digits, plain.fraction point)) (exponent_is p.exponent_negative p.exponent formed.exponent_digits),
      ),
    )

-- WHAT A FLOAT IS WRITTEN AS

nan_text : (f : Format) (x : Float) → is_nan x ≡ true → IsFloatText f x (codes "nan")
unfolding is_nan
nan_text f nan h = cc
nan_text f (inf s) h = absurd (cc)
nan_text f (fin s m e) h = absurd (cc)

word_text : (f : Format) (x : Float) (s : List ℕ) → is_nan x ≡ false → float_is_finite x ≡ false → s ≡ word_of x → IsFloatText f x s
unfolding is_nan float_is_finite
word_text f nan s h other word = absurd (cc)
word_text f (inf n) s h other word = word
word_text f (fin n m e) s h other word = absurd (cc)

number_text : (f : Format) (x : Float) (s : List ℕ) → float_is_finite x ≡ true → IsNumber s → parse_float f s ≡ Some x → IsFloatText f x s
unfolding float_is_finite
number_text f nan s finite is read = absurd (cc)
number_text f (inf n) s finite is read = absurd (cc)
number_text f (fin n m e) s finite is read = (is, read)

-- the same of a float that was made of bits
pub nan_written : (f : Format) (number x : Float) → number ≡ x → is_nan number ≡ true → IsFloatText f x (codes "nan")
nan_written f number x same h = subst (λ (y : Float). IsFloatText f y (codes "nan")) same (nan_text f number h)

pub word_written :
    (f : Format) (number x : Float) (s : List ℕ) → number ≡ x → is_nan number ≡ false → float_is_finite number ≡ false → s ≡ word_of number → IsFloatText f x s
word_written f number x s same h other word = subst (λ (y : Float). IsFloatText f y s) same (word_text f number s h other word)

pub number_written :
    (f : Format) (number x : Float) (s : List ℕ) → number ≡ x → float_is_finite number ≡ true → IsNumber s → parse_float f s ≡ Some x → IsFloatText f x s
number_written f number x s same finite is read = number_text f x s (subst (λ (y : Float). float_is_finite y ≡ true) same finite) is read
