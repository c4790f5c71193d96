-- How floats are written.
use Rattle.std.proofs.Common.{◌≡◌, ℕ, ◌≤◌, List, length, Some, refl, subst}
use Rattle.std.specs.Prelude.{Bool, true, false, codes}
use Rattle.std.specs.Float.{float_is_finite, is_sign_negative}
use lib.Ieee.{Float, Format, nan, inf, fin, is_nan}
use Rattle.ryu.specs.Parse.{parse_float}
use Rattle.ryu.specs.Plain.{IsPlainNumber}
use Rattle.pb_json.specs.declared.form.Layout.{Layout}
use Rattle.pb_json.specs.JsonText.{IsJsonText, in_quotes}
use Rattle.pb_json.specs.Mapping.{float_json, infinity_word}

nan_text : (layout : Layout) (indent : ℕ) (f : Format) (x : Float) → is_nan x ≡ true → IsJsonText layout indent (float_json f x) (in_quotes (codes "NaN"))
unfolding is_nan
nan_text layout indent f nan h = refl
nan_text layout indent f (inf s) h = absurd (cc)
nan_text layout indent f (fin s m e) h = absurd (cc)

finite_text :
    (layout : Layout) (indent : ℕ) (f : Format) (x : Float) (s : List ℕ) → float_is_finite x ≡ true → IsPlainNumber s → parse_float f s ≡ Some x
    → length s ≤ 25 → IsJsonText layout indent (float_json f x) s
unfolding float_is_finite
finite_text layout indent f nan s h plain parses short = absurd (cc)
finite_text layout indent f (inf n) s h plain parses short = absurd (cc)
finite_text layout indent f (fin n m e) s h plain parses short = (plain, parses, short)

infinite_text :
    (layout : Layout) (indent : ℕ) (f : Format) (x : Float) (negative : Bool) → is_nan x ≡ false → float_is_finite x ≡ false → negative ≡ is_sign_negative x
    → IsJsonText layout indent (float_json f x) (in_quotes (infinity_word negative))
unfolding is_nan float_is_finite is_sign_negative
infinite_text layout indent f nan negative number h sign = absurd (cc)
infinite_text layout indent f (inf n) negative number h sign = rw sign refl
infinite_text layout indent f (fin n m e) negative number h sign = absurd (cc)

-- the same of a float that was made of bits
pub nan_written :
    (layout : Layout) (indent : ℕ) (f : Format) (number x : Float) → number ≡ x → is_nan number ≡ true → IsJsonText layout indent (float_json f x) (in_quotes (codes "NaN"))
nan_written layout indent f number x same h =
    subst (λ (y : Float). IsJsonText layout indent (float_json f y) (in_quotes (codes "NaN"))) same (nan_text layout indent f number h)

pub finite_written :
    (layout : Layout) (indent : ℕ) (f : Format) (number x : Float) (s : List ℕ) → number ≡ x → float_is_finite number ≡ true → IsPlainNumber s
    → parse_float f s ≡ Some number → length s ≤ 25 → IsJsonText layout indent (float_json f x) s
finite_written layout indent f number x s same h plain parses short =
    subst (λ (y : Float). IsJsonText layout indent (float_json f y) s) same (finite_text layout indent f number s h plain parses short)

pub infinite_written :
    (layout : Layout) (indent : ℕ) (f : Format) (number x : Float) (negative : Bool) → number ≡ x → is_nan number ≡ false → float_is_finite number ≡ false
    → negative ≡ is_sign_negative number → IsJsonText layout indent (float_json f x) (in_quotes (infinity_word negative))
infinite_written layout indent f number x negative same number_is h sign =
    subst (λ (y : Float). IsJsonText layout indent (float_json f y) (in_quotes (infinity_word negative))) same
    (infinite_text layout indent f number negative number_is h sign)
