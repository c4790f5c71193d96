-- Floats of the text format ("Numeric Literals"): a minus perhaps, digits, perhaps a fraction, and perhaps an exponent.
use Rattle.std.specs.Prelude.{◌≡◌, ◌⊎◌, ℕ, ◌<◌, List, [], ◌∷◌, ◌++◌, Bool, length, slice_index, codes, Some}
use Rattle.std.specs.Float.{Float, Format, nan, inf, fin}
use Rattle.std.specs.Fmt.{sign_text}
use Rattle.std.specs.Str.Parse.{AllDigits}
use Rattle.ryu.specs.Parse.{parse_float}

-- dec, { dec }
abbrev pub AreDigits : List ℕ → Type 0
AreDigits s = AllDigits 10 s × (0 < length s)

-- "0", or a digit that is not 0, and digits
abbrev pub IsWhole : List ℕ → Type 0
IsWhole s = AreDigits s × (slice_index s 0 ≡ 48 → length s ≡ 1)

-- [ "+" | "-" ], dec, { dec }
abbrev pub IsSigned : List ℕ → Type 0
IsSigned s = AreDigits s ⊎ (((digits : List ℕ) × (s ≡ 43 ∷ digits) × AreDigits digits) ⊎ ((digits : List ℕ) × (s ≡ 45 ∷ digits) × AreDigits digits))

-- perhaps "e", and a number with perhaps a sign
abbrev pub IsExponent : List ℕ → Type 0
IsExponent s = (s ≡ []) ⊎ ((rest : List ℕ) × (s ≡ 101 ∷ rest) × IsSigned rest)

-- dec, { dec }, and perhaps an exponent
abbrev pub IsFraction : List ℕ → Type 0
IsFraction s = (digits exponent : List ℕ) × (s ≡ digits ++ exponent) × AreDigits digits × IsExponent exponent

-- perhaps "." and a fraction, or perhaps an exponent
abbrev pub IsTail : List ℕ → Type 0
IsTail s = IsExponent s ⊎ ((rest : List ℕ) × (s ≡ 46 ∷ rest) × IsFraction rest)

abbrev pub IsNumeral : List ℕ → Type 0
IsNumeral s = (whole tail : List ℕ) × (s ≡ whole ++ tail) × IsWhole whole × IsTail tail

abbrev pub IsNumber : List ℕ → Type 0
IsNumber s = (negative : Bool) × (size : List ℕ) × (s ≡ sign_text negative ++ size) × IsNumeral size

-- a number that reads as this float
abbrev pub IsNumberFor : Format → Float → List ℕ → Type 0
IsNumberFor f x s = IsNumber s × (parse_float f s ≡ Some x)

-- a float: a number that reads back as it, or a word
abbrev pub IsFloatText : Format → Float → List ℕ → Type 0
IsFloatText f nan s = s ≡ codes "nan"
IsFloatText f (inf negative) s = s ≡ sign_text negative ++ codes "inf"
IsFloatText f (fin negative m e) s = IsNumberFor f (fin negative m e) s
