-- The float nearest to a number, as the numeral that is scanned gives it.
use Rattle.std.proofs.Common.{◌≡◌, ℕ, Bool, true, List, sym, ap, ap₂, ◌∙◌, to_bits, Option, Some, None, SomeIff, IfSome}
use Rattle.std.specs.Float.{Float, Format, float_is_finite}
use Rattle.fast_float.specs.Text.{Parts, nearest as nearest_to_parts}
use Rattle.pb_json_scalars.specs.Numbers.{Number, IsNumber, nearest, IsFloatText}
use Rattle.pb_json_scalars.specs.Scanned.{parts_of, IsScanned, ScannedAs}
use Rattle.pb_json_scalars.proofs.WorthLemmas.{signs}

pub nearest_same : (f : Format) (n : Number) → nearest_to_parts f n.negative (parts_of n) ≡ nearest f n
nearest_same f n = let e = signs n.sign n.exponent in rw (e.0, e.1)

nearest_scanned : (f : Format) (negative : Bool) (p : Parts) (n : Number) (x : Float) → ScannedAs n negative p → x ≡ nearest_to_parts f negative p → x ≡ nearest f n
nearest_scanned f negative p n x same e = e ∙ ap₂ (λ (b : Bool) (q : Parts). nearest_to_parts f b q) same.0 same.1 ∙ nearest_same f n

pub float_read : (o : Option ℕ) (f : Format) (s : List ℕ) (negative : Bool) (p : Parts) (x : Float) → IsScanned s negative p
    → x ≡ nearest_to_parts f negative p → SomeIff o (float_is_finite x ≡ true) (to_bits f x) → IfSome o (IsFloatText f s)
float_read None f s negative p x is e h = tt
float_read (Some bits) f s negative p x (n, is, same) e h =
    let near = nearest_scanned f negative p n x same e in
    (n, is, ap float_is_finite (sym near) ∙ h.0, h.1 ∙ ap (to_bits f) near)

pub float_found : (o : Option ℕ) (f : Format) (s : List ℕ) (negative : Bool) (p : Parts) (x : Float) (bits : ℕ)
    → ((n : Number) → IsNumber s n → ScannedAs n negative p) → x ≡ nearest_to_parts f negative p
    → SomeIff o (float_is_finite x ≡ true) (to_bits f x) → IsFloatText f s bits → o ≡ Some bits
float_found None f s negative p x bits which e h (n, is, finite, same) =
    let near = nearest_scanned f negative p n x (which n is) e in
    absurd (h (ap float_is_finite near ∙ finite))
float_found (Some b) f s negative p x bits which e h (n, is, finite, same) =
    let near = nearest_scanned f negative p n x (which n is) e in
    ap (λ (k : ℕ). Some k) (h.1 ∙ ap (to_bits f) near ∙ sym same)
