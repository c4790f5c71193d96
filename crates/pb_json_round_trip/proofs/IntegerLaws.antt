-- Integers, as they are written.
use Rattle.std.proofs.Common.{◌≡◌, ℕ, zero, suc, ◌*◌, ◌^◌, ◌<◌, true, false, List, [], ◌++◌, length, refl, sym, ap, ◌∙◌, arith, append-nil, ℤ, pos, negsuc, FitsSigned, w64, decimal}
use Rattle.std.proofs.lemmas.Fmt.{decimal_is_IsNumeral, first_decimal}
use Rattle.std.proofs.lemmas.Int.{ints}
use Rattle.std.specs.Fmt.{digits, signed_decimal}
use Rattle.std.specs.Str.Parse.{digits_value}
use Rattle.pb_json_scalars.specs.Keys.{IsKeyText}
use Rattle.pb_json_scalars.specs.Numbers.{IsInt, IsIntegerText, none, minus_text, signed}

one_zero : length (decimal 0) ≡ 1
unfolding digits
one_zero = refl

decimal_int : (n : ℕ) → n < 2 ^ 64 → IsInt (decimal n)
decimal_int zero small = ((decimal_is_IsNumeral zero small).0, λ e. one_zero)
decimal_int (suc n) small = ((decimal_is_IsNumeral (suc n) small).0, λ e. absurd (let first = first_decimal (suc n) (omega arith) small in omega arith))

pub natural_key : (n : ℕ) → n < 2 ^ 64 → IsKeyText (decimal n) (pos n)
natural_key n small = (false, decimal n, decimal_int n small, refl, ap (λ (k : ℕ). pos k) (sym (decimal_is_IsNumeral n small).1))

pub signed_key : (z : ℤ) → FitsSigned w64 z → IsKeyText (signed_decimal z) z
signed_key (pos n) fits = natural_key n (omega (arith, ints, fits))
signed_key (negsuc n) fits =
    let small : suc n < 2 ^ 64 = omega (arith, ints, fits) in
    (true, decimal (suc n), decimal_int (suc n) small, refl, ap (λ (k : ℕ). signed true k) (sym (decimal_is_IsNumeral (suc n) small).1))

pub key_is_integer : (s : List ℕ) (z : ℤ) → IsKeyText s z → IsIntegerText s z
key_is_integer s z (negative, ds, int, text, e) =
    let same : digits_value 10 ds ≡ digits_value 10 (ds ++ []) = ap (digits_value 10) (sym (append-nil ds)) in (
      record { negative = negative; whole = ds; fraction = []; upper = false; sign = none; exponent = [] },
      record { whole = int; fraction = tt; exponent = tt; text = text ∙ ap (λ (l : List ℕ). minus_text negative ++ l) (sym (append-nil ds)) },
      (digits_value 10 ds, e, ap (λ (k : ℕ). k * 1) same),
    )
