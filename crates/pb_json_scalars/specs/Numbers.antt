-- Numbers (RFC 8259, section 6), and what they are worth.
use Rattle.std.specs.Prelude.{◌≡◌, ℕ, ◌+◌, ◌*◌, ◌^◌, Bool, true, false, List, [], ◌∷◌, ◌++◌, length, slice_index, ℤ, pos, neg_ℤ, if◌then◌else◌, codes, to_bits, Option, Some, None, MatchOption}
use Rattle.std.specs.Float.{Float, Format, nan, inf, float_is_finite}
use Rattle.std.specs.Float.Ieee.{round}
use Rattle.std.specs.Str.{bytes_eq}
use Rattle.std.specs.Str.Parse.{digits_value, AllDigits, IsNumeral}

-- THE GRAMMAR

-- the sign of an exponent
pub data Sign : Type 0 where
  none : Sign
  plus : Sign
  minus : Sign

-- the parts of a number; a fraction or an exponent that is left out has no digit
pub record Number : Type 0 where
  pub negative : Bool
  pub whole : List ℕ
  pub fraction : List ℕ
  pub upper : Bool
  pub sign : Sign
  pub exponent : List ℕ

-- int = zero / ( digit1-9 *DIGIT )
abbrev pub IsInt : List ℕ → Type 0
IsInt ds = IsNumeral 10 ds × (slice_index ds 0 ≡ 48 → length ds ≡ 1)

abbrev pub minus_text : Bool → List ℕ
minus_text false = []
minus_text true = 45 ∷ []

-- frac = decimal-point 1*DIGIT
abbrev pub fraction_text : List ℕ → List ℕ
fraction_text [] = []
fraction_text (d ∷ ds) = 46 ∷ d ∷ ds

-- e = %x65 / %x45
abbrev pub e_text : Bool → ℕ
e_text false = 101
e_text true = 69

abbrev pub sign_text : Sign → List ℕ
sign_text none = []
sign_text plus = 43 ∷ []
sign_text minus = 45 ∷ []

-- exp = e [ minus / plus ] 1*DIGIT
abbrev pub exponent_text : Bool → Sign → List ℕ → List ℕ
exponent_text upper sign [] = []
exponent_text upper sign (d ∷ ds) = e_text upper ∷ (sign_text sign ++ d ∷ ds)

-- number = [ minus ] int [ frac ] [ exp ]
abbrev pub number_text : Number → List ℕ
number_text n = minus_text n.negative ++ (n.whole ++ (fraction_text n.fraction ++ exponent_text n.upper n.sign n.exponent))

-- the characters are of a number with these parts
pub record IsNumber (s : List ℕ) (n : Number) : Type 0 where
  pub whole : IsInt n.whole
  pub fraction : AllDigits 10 n.fraction
  pub exponent : AllDigits 10 n.exponent
  pub text : s ≡ number_text n

-- WORTH

-- the digits before and after the point, as one number
abbrev pub digits : Number → ℕ
digits n = digits_value 10 (n.whole ++ n.fraction)

-- a number is worth digits * 10 ^ up / 10 ^ down, with its sign
abbrev pub up_by : Sign → List ℕ → ℕ
up_by none exponent = digits_value 10 exponent
up_by plus exponent = digits_value 10 exponent
up_by minus exponent = 0

abbrev pub up : Number → ℕ
up n = up_by n.sign n.exponent

abbrev pub down_by : Sign → List ℕ → ℕ
down_by none exponent = 0
down_by plus exponent = 0
down_by minus exponent = digits_value 10 exponent

abbrev pub down : Number → ℕ
down n = length n.fraction + down_by n.sign n.exponent

abbrev pub signed : Bool → ℕ → ℤ
signed negative k = if negative then neg_ℤ (pos k) else pos k

-- a number equals an integer
abbrev pub Equals : Number → ℤ → Type 0
Equals n z = (k : ℕ) × (z ≡ signed n.negative k) × (k * 10 ^ down n ≡ digits n * 10 ^ up n)

-- the characters are of a number that equals the integer
abbrev pub IsIntegerText : List ℕ → ℤ → Type 0
IsIntegerText s z = (n : Number) × IsNumber s n × Equals n z

-- the float nearest to a number; an infinity where the number is too large
abbrev pub nearest : Format → Number → Float
nearest f n = round f n.negative (digits n * 10 ^ up n) (10 ^ down n)

-- The characters are of a number, and these are the bits of the float nearest to it. A number whose nearest float is an infinity has none.
abbrev pub IsFloatText : Format → List ℕ → ℕ → Type 0
IsFloatText f s bits = (n : Number) × IsNumber s n × (float_is_finite (nearest f n) ≡ true) × (bits ≡ to_bits f (nearest f n))

-- the words for what is no number (ProtoJSON format, "JSON representation")
abbrev pub float_word : List ℕ → Option Float
float_word s =
    if bytes_eq s (codes "NaN") then Some nan else if bytes_eq s (codes "Infinity") then Some (inf false)
    else if bytes_eq s (codes "-Infinity") then Some (inf true) else None

-- a string that is such a word, or else a number
abbrev pub IsFloatString : Format → List ℕ → ℕ → Type 0
IsFloatString f s bits = MatchOption (float_word s) (IsFloatText f s bits) (λ x. bits ≡ to_bits f x)
