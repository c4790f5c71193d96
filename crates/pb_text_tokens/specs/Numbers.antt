-- Numbers (Text Format Language Specification, "Numeric Literals"). A number goes as far as letters, digits, `_`, points and signs of exponents
-- follow one another, so a blank or a mark is between it and what comes next.
use Rattle.std.specs.Prelude.{ℕ, suc, ◌-◌, List, [], ◌∷◌, length, take, drop, slice_index, Bool, false, not, ◌&&◌, ◌||◌, ◌==◌, if◌then◌else◌, nat_lt}
use Rattle.std.specs.Prelude.{Option, Some, None}
use Rattle.std.specs.List.{list_all}
use Rattle.std.specs.Char.{is_ascii_digit, is_digit}
use Rattle.pb_text_tokens.specs.Characters.{begins_digit, continues_word, run_len}
use Rattle.pb_text_tokens.specs.declared.token.TokenKind.{TokenKind}
use Rattle.pb_text_tokens.specs.declared.token.TokenKind.TheVariants.{Decimal, Octal, Hexadecimal, Floating}

abbrev pub is_letter_e : ℕ → Bool
is_letter_e c = c == 101 || c == 69

-- the byte goes on a number, which it does after an `e` if it is a sign
abbrev pub goes_on : Bool → ℕ → Bool
goes_on after_e c = continues_word c || c == 46 || (after_e && (c == 43 || c == 45))

-- how many bytes go on a number that has begun
abbrev pub number_rest : Bool → List ℕ → ℕ
number_rest after_e [] = 0
number_rest after_e (c ∷ cs) = if goes_on after_e c then suc (number_rest (is_letter_e c) cs) else 0

-- { dec }
abbrev pub digits_len : List ℕ → ℕ
digits_len w = run_len is_ascii_digit w

-- dec, { dec }
abbrev pub is_digits : List ℕ → Bool
is_digits w = nat_lt 0 (length w) && list_all is_ascii_digit w

-- DEC_INT: dec_lit  = "0" | ( dec - "0" ), { dec }
abbrev pub is_decimal : List ℕ → Bool
is_decimal w = is_digits w && (length w == 1 || not (slice_index w 0 == 48))

abbrev pub is_octal_digit : ℕ → Bool
is_octal_digit c = is_digit c 8

abbrev pub is_hexadecimal_digit : ℕ → Bool
is_hexadecimal_digit c = is_digit c 16

-- OCT_INT: "0", oct, { oct }
abbrev pub is_octal : List ℕ → Bool
is_octal w = nat_lt 1 (length w) && slice_index w 0 == 48 && list_all is_octal_digit (drop 1 w)

-- HEX_INT: "0", ( "X" | "x" ), hex, { hex }
abbrev pub is_hexadecimal : List ℕ → Bool
is_hexadecimal w =
    nat_lt 2 (length w) && slice_index w 0 == 48 && (slice_index w 1 == 120 || slice_index w 1 == 88)
    && list_all is_hexadecimal_digit (drop 2 w)

abbrev pub after_sign : List ℕ → List ℕ
after_sign [] = []
after_sign (c ∷ cs) = if c == 43 || c == 45 then cs else c ∷ cs

-- exp  = ( "E" | "e" ), [ "+" | "-" ], dec, { dec }
abbrev pub is_exponent : List ℕ → Bool
is_exponent [] = false
is_exponent (c ∷ cs) = is_letter_e c && is_digits (after_sign cs)

-- [ exp ]
abbrev pub may_be_exponent : List ℕ → Bool
may_be_exponent w = length w == 0 || is_exponent w

-- { dec }, [ exp ]
abbrev pub after_point : List ℕ → Bool
after_point w = may_be_exponent (drop (digits_len w) w)

-- ".", { dec }, [ exp ] | exp
abbrev pub after_whole : List ℕ → Bool
after_whole [] = false
after_whole (c ∷ cs) = if c == 46 then after_point cs else is_exponent (c ∷ cs)

-- ".", dec, { dec }, [ exp ]
abbrev pub is_pointed : List ℕ → Bool
is_pointed [] = false
is_pointed (c ∷ cs) = c == 46 && begins_digit cs && after_point cs

-- float_lit  = ".", dec, { dec }, [ exp ] | dec_lit, ".", { dec }, [ exp ] | dec_lit, exp
abbrev pub is_float_literal : List ℕ → Bool
is_float_literal w = is_pointed w || (is_decimal (take (digits_len w) w) && after_whole (drop (digits_len w) w))

-- "F" | "f" at the end
abbrev pub has_suffix : List ℕ → Bool
has_suffix w = nat_lt 0 (length w) && (slice_index w (length w - 1) == 102 || slice_index w (length w - 1) == 70)

abbrev pub without_last : List ℕ → List ℕ
without_last w = take (length w - 1) w

-- FLOAT: float_lit, [ "F" | "f" ] | dec_lit, ( "F" | "f" )
abbrev pub is_floating : List ℕ → Bool
is_floating w = is_float_literal w || (has_suffix w && (is_float_literal (without_last w) || is_decimal (without_last w)))

abbrev pub kind_of_number : List ℕ → Option TokenKind
kind_of_number w =
    if is_decimal w then Some Decimal
    else if is_octal w then Some Octal
    else if is_hexadecimal w then Some Hexadecimal
    else if is_floating w then Some Floating
    else None
