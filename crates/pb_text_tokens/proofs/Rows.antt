-- Small texts, their tokens and their faults, worked out by the rules: one for each production of the grammar, and for each fault.
use Rattle.std.proofs.Common.{◌≡◌, [], ◌∷◌, ◌++◌, codes, refl, false, true, Some, None, Ok}
use Rattle.pb_text_tokens.specs.Characters.{first_of, is_mark}
use Rattle.pb_text_tokens.specs.Fault.{fault}
use Rattle.pb_text_tokens.specs.Numbers.{kind_of_number, number_rest}
use Rattle.pb_text_tokens.specs.Strings.{Inside, escape, escape_of, string_meaning}
use Rattle.pb_text_tokens.specs.Tokens.{AreTokens, HasFault, Lexes, placed}
use Rattle.pb_text_tokens.specs.declared.bytes.First.TheVariants as first
use Rattle.pb_text_tokens.specs.declared.escape.Meant.TheVariants.{Byte, Character}
use Rattle.pb_text_tokens.specs.declared.fault.TokenCause.TheVariants.{UnexpectedByte, BadNumber, OpenString, BadEscape}
use Rattle.pb_text_tokens.specs.declared.token.TokenKind.TheVariants.{Word, Decimal, Octal, Hexadecimal, Floating, Quoted, Mark}

-- ---- whole texts

nothing : AreTokens [] []
nothing = Lexes.done

-- a word, a mark and a number, with a comment between that goes to its line's end
a_field : AreTokens (codes "a1:#b" ++ 10 ∷ codes " 5") (placed Word 0 (codes "a1") ∷ placed Mark 2 (codes ":") ∷ placed Decimal 7 (codes "5") ∷ [])
a_field =
    Lexes.token Word 2 refl (Lexes.token Mark 1 refl (Lexes.gap 2 refl (Lexes.gap 2 refl (Lexes.token Decimal 1 refl Lexes.done refl))) refl) refl

-- both quotes, and no blank between a string and what follows
two_strings : AreTokens (codes "'a'\"'\"b") (placed Quoted 0 (codes "'a'") ∷ placed Quoted 3 (codes "\"'\"") ∷ placed Word 6 (codes "b") ∷ [])
two_strings =
    Lexes.token Quoted 3 (Ok 2, Inside.passes refl (Inside.closes refl) refl, refl)
    (Lexes.token Quoted 3 (Ok 2, Inside.passes refl (Inside.closes refl) refl, refl) (Lexes.token Word 1 refl Lexes.done refl) refl) refl

-- a sign is no part of a number, and a point before a digit is
signs : AreTokens (codes "-.5") (placed Mark 0 (codes "-") ∷ placed Floating 1 (codes ".5") ∷ [])
signs = Lexes.token Mark 1 refl (Lexes.token Floating 2 refl Lexes.done refl) refl

-- ---- faults

plus : HasFault (codes "a +") (fault 2 UnexpectedByte)
plus = Lexes.token Word 1 refl (Lexes.gap 1 refl (Lexes.fault _ refl refl)) refl

-- a NUL ends a comment, and begins no token
nul_in_comment : HasFault (codes "#a" ++ 0 ∷ []) (fault 2 UnexpectedByte)
nul_in_comment = Lexes.gap 2 refl (Lexes.fault _ refl refl)

mark_of_order : HasFault (239 ∷ 187 ∷ 191 ∷ []) (fault 0 UnexpectedByte)
mark_of_order = Lexes.fault _ refl refl

letter_after_number : HasFault (codes " 1b") (fault 1 BadNumber)
letter_after_number = Lexes.gap 1 refl (Lexes.fault _ refl refl)

line_in_string : HasFault (codes "'a" ++ 10 ∷ codes "'") (fault 2 OpenString)
line_in_string = Lexes.fault _ (_, Inside.passes refl (Inside.stops refl refl) refl, refl) refl

end_in_string : HasFault (codes "'a") (fault 2 OpenString)
end_in_string = Lexes.fault _ (_, Inside.passes refl (Inside.stops refl refl) refl, refl) refl

nul_in_string : HasFault (codes "'" ++ 0 ∷ codes "'") (fault 1 UnexpectedByte)
nul_in_string = Lexes.fault _ (_, Inside.stops refl refl, refl) refl

no_escape : HasFault (codes "'\\q'") (fault 1 BadEscape)
no_escape = Lexes.fault _ (_, Inside.stops refl refl, refl) refl

-- ---- what bytes begin with

below_space : first_of (9 ∷ []) ≡ first.Blank
below_space = refl

carriage_return : first_of (13 ∷ []) ≡ first.Blank
carriage_return = refl

shift_out : first_of (14 ∷ []) ≡ first.Other
shift_out = refl

delete_character : first_of (127 ∷ []) ≡ first.Other
delete_character = refl

low_line : first_of (codes "_") ≡ first.Word
low_line = refl

a_point : first_of (codes ".a") ≡ first.Mark
a_point = refl

point_and_digit : first_of (codes ".0") ≡ first.Number
point_and_digit = refl

all_marks : Rattle.std.specs.List.list_all is_mark (codes "{}<>[]:;,-./") ≡ true
all_marks = refl

no_mark : Rattle.std.specs.List.list_all is_mark (codes "(") ≡ false
no_mark = refl

-- ---- numbers

zero_digit : kind_of_number (codes "0") ≡ Some Decimal
zero_digit = refl

decimal : kind_of_number (codes "1200") ≡ Some Decimal
decimal = refl

octal : kind_of_number (codes "017") ≡ Some Octal
octal = refl

no_octal : kind_of_number (codes "018") ≡ None
no_octal = refl

hexadecimal : kind_of_number (codes "0xfF") ≡ Some Hexadecimal
hexadecimal = refl

upper_hexadecimal : kind_of_number (codes "0X1") ≡ Some Hexadecimal
upper_hexadecimal = refl

no_hexadecimal : kind_of_number (codes "0x") ≡ None
no_hexadecimal = refl

no_hexadecimal_digit : kind_of_number (codes "0xg") ≡ None
no_hexadecimal_digit = refl

-- ".", dec, { dec }, [ exp ]
pointed : kind_of_number (codes ".50e3") ≡ Some Floating
pointed = refl

-- dec_lit, ".", { dec }, [ exp ]
with_point : kind_of_number (codes "1.") ≡ Some Floating
with_point = refl

with_fraction : kind_of_number (codes "0.25E-1") ≡ Some Floating
with_fraction = refl

-- dec_lit, exp
scaled : kind_of_number (codes "10e+05") ≡ Some Floating
scaled = refl

-- a float or a decimal integer with an `f`
with_suffix : kind_of_number (codes "1.5f") ≡ Some Floating
with_suffix = refl

whole_with_suffix : kind_of_number (codes "1F") ≡ Some Floating
whole_with_suffix = refl

two_suffixes : kind_of_number (codes "1ff") ≡ None
two_suffixes = refl

no_exponent : kind_of_number (codes "1e") ≡ None
no_exponent = refl

sign_alone : kind_of_number (codes "1e+") ≡ None
sign_alone = refl

two_points : kind_of_number (codes "1..5") ≡ None
two_points = refl

octal_with_point : kind_of_number (codes "00.5") ≡ None
octal_with_point = refl

octal_with_suffix : kind_of_number (codes "01f") ≡ None
octal_with_suffix = refl

-- a sign goes on a number after an `e` alone
sign_after_e : number_rest false (codes "e-5 ") ≡ 3
sign_after_e = refl

sign_after_digit : number_rest false (codes "2-5") ≡ 1
sign_after_digit = refl

-- ---- escapes

letter : escape_of (codes "n") ≡ Some (escape 1 (Byte 10))
letter = refl

question_mark : escape_of (codes "?") ≡ Some (escape 1 (Byte 63))
question_mark = refl

two_hexadecimal : escape_of (codes "x414") ≡ Some (escape 3 (Byte 65))
two_hexadecimal = refl

one_hexadecimal : escape_of (codes "x4g") ≡ Some (escape 2 (Byte 4))
one_hexadecimal = refl

no_upper_x : escape_of (codes "X41") ≡ None
no_upper_x = refl

three_octal : escape_of (codes "1234") ≡ Some (escape 3 (Byte 83))
three_octal = refl

low_octal : escape_of (codes "400") ≡ Some (escape 3 (Byte 0))
low_octal = refl

eight : escape_of (codes "8") ≡ None
eight = refl

four_digits : escape_of (codes "u00e9") ≡ Some (escape 5 (Character 233))
four_digits = refl

three_digits : escape_of (codes "u00e") ≡ None
three_digits = refl

eight_digits : escape_of (codes "U0010ffff") ≡ Some (escape 9 (Character 1114111))
eight_digits = refl

above_all : escape_of (codes "U00110000") ≡ None
above_all = refl

surrogate_pair : escape_of (codes "ud83d\\ude00") ≡ Some (escape 11 (Character 128512))
surrogate_pair = refl

first_surrogate_alone : escape_of (codes "ud83d") ≡ None
first_surrogate_alone = refl

second_surrogate_alone : escape_of (codes "ude00") ≡ None
second_surrogate_alone = refl

two_first_surrogates : escape_of (codes "ud83d\\ud83d") ≡ None
two_first_surrogates = refl

-- ---- what strings mean

means : string_meaning (codes "'a\\tb\\101'") ≡ 97 ∷ 9 ∷ 98 ∷ 65 ∷ []
means = refl

means_character : string_meaning (codes "\"\\u00e9\"") ≡ 195 ∷ 169 ∷ []
unfolding lib.Utf8.encode
means_character = refl

-- the other quote means itself, and nothing is read after the closing one
other_quote : string_meaning (codes "'\"'x") ≡ codes "\""
other_quote = refl
