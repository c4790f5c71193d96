-- How floats are listed: by their bits, or in decimal.
use Rattle.std.specs.Prelude.{◌≡◌, ℕ, ℤ, List, [], ◌++◌, codes, Some, from_bits}
use Rattle.std.specs.Float.{Float, Format, binary32, binary64, nan, inf, fin}
use Rattle.std.specs.Fmt.{sign_text}
use Rattle.ryu.specs.Parse.{parse_float}
use Rattle.ryu.specs.Plain.{IsLaidOutNumber}
use Rattle.pb_schema.specs.Scalar.{Scalar, float, double}
use Rattle.pb_value.specs.Data.{Datum, scalar, message}
use Rattle.pb_listing.specs.declared.form.FloatForm.{FloatForm}
use Rattle.pb_listing.specs.declared.form.FloatForm.TheVariants.{Bits, Decimal}
use Rattle.pb_listing.specs.Listing.{scalar_text}

-- A float in decimal: digits that read back to it, with an exponent where more than this many digits would come before the point, or more than this
-- many zeros after it; or a word for what is no number.
abbrev pub IsDecimal : Format → ℕ → ℕ → Float → List ℕ → Type 0
IsDecimal f whole_digits leading_zeros nan s = s ≡ codes "nan"
IsDecimal f whole_digits leading_zeros (inf negative) s = s ≡ sign_text negative ++ codes "inf"
IsDecimal f whole_digits leading_zeros (fin negative m e) s =
    IsLaidOutNumber whole_digits leading_zeros s × (parse_float f s ≡ Some (fin negative m e))

-- of what is no float the text is the same in each form
abbrev pub IsDecimalScalar : List (List ℕ × ℤ) → Scalar → List ℕ → Type 0
IsDecimalScalar names (float n) s = IsDecimal binary32 13 5 (from_bits binary32 n) s
IsDecimalScalar names (double n) s = IsDecimal binary64 16 4 (from_bits binary64 n) s
IsDecimalScalar names x s = s ≡ scalar_text names x

-- the bytes are a value's, where floats are listed so; an enum's is named by these
abbrev pub IsScalarText : FloatForm → List (List ℕ × ℤ) → Scalar → List ℕ → Type 0
IsScalarText Bits names x s = s ≡ scalar_text names x
IsScalarText Decimal names x s = IsDecimalScalar names x s

-- of a message nothing
abbrev pub IsDatumText : FloatForm → List (List ℕ × ℤ) → Datum → List ℕ → Type 0
IsDatumText floats names (scalar x) s = IsScalarText floats names x s
IsDatumText floats names (message b) s = s ≡ []
