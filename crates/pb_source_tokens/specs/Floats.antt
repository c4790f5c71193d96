-- What number words hold of floating literals (Protocol Buffers Language Specification (Proto3), "Floating-point literals").
use Rattle.std.specs.Prelude.{ℕ, List, [], ◌∷◌, Bool, true, false, ◌||◌, ◌==◌, if◌then◌else◌, Option, Some, None, is_some}
use Rattle.std.specs.Char.{is_digit}
use Rattle.pb_source_tokens.specs.Integers.{number_in, integer_of}
use Rattle.pb_source_tokens.specs.Symbols.{Symbol, word, number, text, sign}
use Rattle.pb_source_tokens.specs.declared.parsing.floats.Begun.{Begun}
use Rattle.pb_source_tokens.specs.declared.parsing.floats.Begun.TheVariants.{Whole, Open, MayPoint, MustPoint}

-- a decimalDigit
abbrev pub is_decimal : ℕ → Bool
is_decimal c = is_digit c 10

-- decimals  = decimalDigit { decimalDigit }
abbrev pub is_decimals : List ℕ → Bool
is_decimals w = is_some (number_in 10 w)

-- what follows the decimal digits at the front
abbrev pub after_digits : List ℕ → List ℕ
after_digits [] = []
after_digits (c ∷ cs) = if is_decimal c then after_digits cs else c ∷ cs

-- exponent  = ( "e" | "E" ) [ "+" | "-" ] decimals: in a word it has no sign; where the word is its letter alone, the sign and the decimals follow
abbrev pub exponent_in : List ℕ → Option Bool
exponent_in [] = None
exponent_in (c ∷ ds) = if c == 101 || c == 69 then after_letter ds else None
  where
    after_letter : List ℕ → Option Bool
    after_letter [] = Some true
    after_letter (d ∷ ds) = if is_decimals (d ∷ ds) then Some false else None

-- decimals exponent, of which this word has all, or all but the sign and the decimals that follow
abbrev pub power_in : List ℕ → Option Bool
power_in [] = None
power_in (c ∷ cs) = if is_decimal c then exponent_in (after_digits cs) else None

-- decimals [ exponent ]
abbrev pub scaled_in : Symbol → Option Bool
scaled_in (number w) = if is_decimals w then Some false else power_in w
scaled_in (word w) = None
scaled_in (text b) = None
scaled_in (sign c) = None

-- the same, or an exponent
abbrev pub fraction_in : Symbol → Option Bool
fraction_in (number w) = scaled_in (number w)
fraction_in (word w) = exponent_in w
fraction_in (text b) = None
fraction_in (sign c) = None

-- by whether the word is decimals, whether it is an integer, and what it has of an exponent
abbrev pub begun_by : Bool → Bool → Option Bool → Option Begun
begun_by true true power = Some MayPoint
begun_by true false power = Some MustPoint
begun_by false is_integer (Some true) = Some Open
begun_by false is_integer (Some false) = Some Whole
begun_by false true None = Some Whole
begun_by false false None = None

abbrev pub begun_of : List ℕ → Option Begun
begun_of w = begun_by (is_decimals w) (is_some (integer_of w)) (power_in w)

-- an integer or a floating literal that begins with a number word
abbrev pub begun_in : Symbol → Option Begun
begun_in (number w) = begun_of w
begun_in (word w) = None
begun_in (text b) = None
begun_in (sign c) = None
