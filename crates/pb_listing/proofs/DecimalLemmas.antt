-- Floats in decimal.
use Rattle.std.proofs.Common.{◌≡◌, ℕ, List, Some, subst}
use Rattle.std.specs.Prelude.{true, false, IsTrue, IsFalse, codes}
use Rattle.std.specs.Float.{float_is_finite}
use lib.Ieee.{Float, Format, nan, inf, fin, is_nan}
use Rattle.ryu.specs.Parse.{parse_float}
use Rattle.ryu.specs.Plain.{IsLaidOutNumber, word_of}
use Rattle.pb_listing.specs.FloatText.{IsDecimal}

nan_decimal : (f : Format) (digits leading : ℕ) (x : Float) → is_nan x ≡ true → IsDecimal f digits leading x (codes "nan")
unfolding is_nan
nan_decimal f digits leading nan h = cc
nan_decimal f digits leading (inf s) h = absurd (cc)
nan_decimal f digits leading (fin s m e) h = absurd (cc)

number_decimal :
    (f : Format) (digits leading : ℕ) (x : Float) (s : List ℕ) → is_nan x ≡ false → parse_float f s ≡ Some x
    → (IsTrue (float_is_finite x) → IsLaidOutNumber digits leading s) → (IsFalse (float_is_finite x) → s ≡ word_of x) → IsDecimal f digits leading x s
unfolding is_nan float_is_finite
number_decimal f digits leading nan s h parses layout word = absurd (cc)
number_decimal f digits leading (inf n) s h parses layout word = word (cc)
number_decimal f digits leading (fin n m e) s h parses layout word = (layout (cc), parses)

-- the same of a float that was made of bits
pub nan_printed : (f : Format) (digits leading : ℕ) (number x : Float) → number ≡ x → is_nan number ≡ true → IsDecimal f digits leading x (codes "nan")
nan_printed f digits leading number x same h =
    subst (λ (y : Float). IsDecimal f digits leading y (codes "nan")) same (nan_decimal f digits leading number h)

pub number_printed :
    (f : Format) (digits leading : ℕ) (number x : Float) (s : List ℕ) → number ≡ x → is_nan number ≡ false → parse_float f s ≡ Some number
    → (IsTrue (float_is_finite number) → IsLaidOutNumber digits leading s) → (IsFalse (float_is_finite number) → s ≡ word_of number)
    → IsDecimal f digits leading x s
number_printed f digits leading number x s same h parses layout word =
    subst (λ (y : Float). IsDecimal f digits leading y s) same (number_decimal f digits leading number s h parses layout word)
