-- What std's `parse` answers is the number that a text writes.
use Rattle.std.proofs.Common.{◌≡◌, ℕ, ◌<◌, ◌^◌, List, length, refl}
use Rattle.std.specs.Prelude.{ℤ, pos, negsuc, ◌-◌, ◌&&◌, nat_lt, Bool, true, false, if◌then◌else◌, Some, None, Result, Ok, Err, IfErr}
use Rattle.std.specs.Bool.{Decides}
use Rattle.std.specs.Str.{all_ascii_digits}
use Rattle.std.specs.Str.Parse.{IsNumeral, digits_value, signed_digits_value, without_leading_plus, without_leading_sign}
use Rattle.std.proofs.lemmas.Bool.Decides.{Decides-ltb, Decides-and}
use Rattle.std.proofs.lemmas.Str.Parse.{IsNumeralModel, numerals_by_value, tells_all_ascii_digits}
use mir.Syntax.{Width}
use mir.Val.{SFits, hbits}
use Rattle.pb_test_types.specs.Texts.{is_numeral, natural, fits_signed, integer}

there : {X P : Type 0} (b : Bool) (x : X) → Decides b P → P → (if b then Some x else None) ≡ Some x
there true x d p = refl
there false x d p = absurd (let e = d.1 p in cc)

absent : {X P : Type 0} (b : Bool) (x : X) → Decides b P → ¬ P → (if b then Some x else None) ≡ None
absent true x d never = absurd (never (d.0 refl))
absent false x d never = refl

-- what holds whatever the error is
pub if_any_err : {T E P : Type 0} (r : Result T E) → P → IfErr r (λ e. P)
if_any_err (Ok x) p = tt
if_any_err (Err e) p = p

numerals : IsNumeralModel (λ ds. all_ascii_digits ds ≡ true) (digits_value 10)
numerals = numerals_by_value _ tells_all_ascii_digits

numeral : (ds : List ℕ) → Decides (is_numeral ds) (IsNumeral 10 ds)
numeral ds = Decides-and (nat_lt 0 (length ds)) (all_ascii_digits ds) (Decides-ltb 0 (length ds)) (numerals.to ds, numerals.from ds)

small : (k : ℕ) (t : List ℕ) →
    Decides (is_numeral (without_leading_plus t) && nat_lt (digits_value 10 (without_leading_plus t)) (2 ^ k))
    (IsNumeral 10 (without_leading_plus t) × (digits_value 10 (without_leading_plus t) < 2 ^ k))
small k t = Decides-and (is_numeral (without_leading_plus t)) (nat_lt (digits_value 10 (without_leading_plus t)) (2 ^ k))
    (numeral (without_leading_plus t)) (Decides-ltb (digits_value 10 (without_leading_plus t)) (2 ^ k))

pub natural_read : (k n : ℕ) (t : List ℕ) → (IsNumeral 10 (without_leading_plus t) × (digits_value 10 (without_leading_plus t) < 2 ^ k)) × (n ≡ digits_value 10 (without_leading_plus t)) → natural k t ≡ Some n
natural_read k n t h = rw (h.1) (there _ (digits_value 10 (without_leading_plus t)) (small k t) h.0)

pub natural_refused : (k : ℕ) (t : List ℕ) → ¬ (IsNumeral 10 (without_leading_plus t) × (digits_value 10 (without_leading_plus t) < 2 ^ k)) → natural k t ≡ None
natural_refused k t never = absent _ (digits_value 10 (without_leading_plus t)) (small k t) never

signed : (w : Width) (bits : ℕ) (z : ℤ) → hbits w ≡ bits - 1 → Decides (fits_signed bits z) (SFits w z)
signed w bits (pos n) e = (λ b. record { sfits = rw e ((Decides-ltb n (2 ^ (bits - 1))).0 b) }, λ f. (Decides-ltb n (2 ^ (bits - 1))).1 (rw e at (f.sfits)))
signed w bits (negsuc n) e = (λ b. record { sfits = rw e ((Decides-ltb n (2 ^ (bits - 1))).0 b) }, λ f. (Decides-ltb n (2 ^ (bits - 1))).1 (rw e at (f.sfits)))

within : (w : Width) (bits : ℕ) (t : List ℕ) → hbits w ≡ bits - 1 →
    Decides (is_numeral (without_leading_sign t) && fits_signed bits (signed_digits_value 10 t)) (IsNumeral 10 (without_leading_sign t) × SFits w (signed_digits_value 10 t))
within w bits t e = Decides-and (is_numeral (without_leading_sign t)) (fits_signed bits (signed_digits_value 10 t)) (numeral (without_leading_sign t)) (signed w bits (signed_digits_value 10 t) e)

pub integer_read : (w : Width) (bits : ℕ) (z : ℤ) (t : List ℕ) → hbits w ≡ bits - 1 → (IsNumeral 10 (without_leading_sign t) × SFits w (signed_digits_value 10 t)) × (z ≡ signed_digits_value 10 t) → integer bits t ≡ Some z
integer_read w bits z t e h = rw (h.1) (there _ (signed_digits_value 10 t) (within w bits t e) h.0)

pub integer_refused : (w : Width) (bits : ℕ) (t : List ℕ) → hbits w ≡ bits - 1 → ¬ (IsNumeral 10 (without_leading_sign t) × SFits w (signed_digits_value 10 t)) → integer bits t ≡ None
integer_refused w bits t e never = absent _ (signed_digits_value 10 t) (within w bits t e) never
