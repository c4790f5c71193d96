-- Small sources, their tokens and their faults, and the integers of number words, worked out by the rules.
use Rattle.std.proofs.Common.{◌≡◌, ℕ, List, [], ◌∷◌, ◌++◌, codes, refl, lit<, inl, inr, false, true, Some, None}
use Rattle.pb_source_tokens.specs.Tokens.{AreTokens, Comment, Escape, FaultHere, LexFault, Lexes, PlacedToken, Spelled, Units, is_closed}
use Rattle.pb_source_tokens.specs.Symbols.{Symbol, AreSymbols}
use Rattle.pb_source_tokens.specs.Texts.{escape_len, text_meaning}
use Rattle.pb_source_tokens.specs.Integers.{integer_of}
use Rattle.pb_source_tokens.specs.declared.fault.SourceCause.TheVariants.{BadToken, OpenComment, OpenText}
use Rattle.pb_source_tokens.specs.declared.token.TokenKind.{TokenKind}
use Rattle.pb_source_tokens.specs.declared.token.TokenKind.TheVariants.{Word, Number, Text, Sign}
use Rattle.pb_source_tokens.proofs.TextLemmas.{no_escape}
use Rattle.pb_source_tokens.specs.Floats.{is_decimals, exponent_in, power_in}
use Rattle.pb_source_tokens.specs.Aggregates.{role_of, Balanced}
use Rattle.pb_source_tokens.specs.Phrases.{part, floating, constant}
use Rattle.pb_source_tokens.specs.Language.{all_rules}
use Rattle.pb_source_tokens.specs.declared.bracket.Bracket.TheVariants.{Curly, Square, Angle}
use Rattle.pb_source_tokens.specs.declared.bracket.Role.TheVariants.{Plain, Opens, Closes}
use Rattle.pb_source_tokens.specs.declared.grammar.Grammar.TheVariants.{Lenient}
use Rattle.pb_source_tokens.specs.declared.grammar.Syntax.TheVariants.{Proto2, Proto3}

-- ---- tokens

token : TokenKind → ℕ → List ℕ → PlacedToken
token kind at text = record { kind = kind; at = at; text = text }

no_tokens : AreTokens [] []
no_tokens = (0, Lexes.done)

-- a comment stands between tokens, and the second slash of `*/` ends it
two_words : AreTokens (codes "a1/* b **/_c") (token Word 0 (codes "a1") ∷ token Word 10 (codes "_c") ∷ [])
unfolding token
two_words = (
  12,
  Lexes.token {t = codes "a1"} (Spelled.a_word refl refl refl)
      (Lexes.comment (Comment.to_close (codes " b *") (codes "_c") refl) (Lexes.token {t = codes "_c"} (Spelled.a_word refl refl tt) Lexes.done refl) refl) refl,
)

-- letters after digits go on the number word
a_number : AreTokens (codes "08x_ 1") (token Number 0 (codes "08x_") ∷ token Number 5 (codes "1") ∷ [])
unfolding token
a_number = (
  6,
  Lexes.token {t = codes "08x_"} (Spelled.a_number refl refl refl) (Lexes.blank refl (Lexes.token {t = codes "1"} (Spelled.a_number refl refl tt) Lexes.done refl)) refl,
)

-- a slash alone is a sign, and two of them are a comment up to the end
slashes : AreTokens (codes "/;//x") (token Sign 0 (codes "/") ∷ token Sign 1 (codes ";") ∷ [])
unfolding token
slashes = (
  5,
  Lexes.token {t = codes "/"} (Spelled.a_sign refl (inr refl))
      (Lexes.token {t = codes ";"} (Spelled.a_sign refl (inl (λ e. cc e))) (Lexes.comment (Comment.to_line_end (codes "x") [] refl tt) Lexes.done refl) refl) refl,
)

-- a byte order mark at the front is skipped, and is counted
behind_mark : AreTokens (0xef ∷ 0xbb ∷ 0xbf ∷ codes "a") (token Word 3 (codes "a") ∷ [])
unfolding token
behind_mark = (4, Lexes.token {t = codes "a"} (Spelled.a_word refl refl tt) Lexes.done refl)

-- ---- faults

mark_inside : LexFault (codes ";" ++ 0xef ∷ 0xbb ∷ 0xbf ∷ []) 1 BadToken
mark_inside = (_, 1, _, Lexes.token {t = codes ";"} (Spelled.a_sign refl (inl (λ e. cc e))) Lexes.done refl, FaultHere.bad_byte refl refl refl refl)

delete_character : LexFault (127 ∷ []) 0 BadToken
delete_character = (_, 0, _, Lexes.done, FaultHere.bad_byte refl refl refl refl)

-- the `*` of `/*` ends no comment
half_a_comment : LexFault (codes "/*/") 0 OpenComment
half_a_comment = (_, 0, _, Lexes.done, FaultHere.open_comment refl)

nul_in_a_text : LexFault (codes "'a" ++ 0 ∷ codes "'") 2 BadToken
nul_in_a_text = (_, 0, _, Lexes.done, FaultHere.nul_in_text {bs = codes "a" ++ 0 ∷ codes "'"} {front = codes "a"} {rest = codes "'"} refl refl (Units.plain refl Units.none) refl)

open_comment : LexFault (codes "; /* x") 2 OpenComment
open_comment =
    (_, 2, codes "/* x", Lexes.token (Spelled.a_sign refl (inl (λ e. cc e))) (Lexes.blank refl Lexes.done) refl, FaultHere.open_comment refl)

open_text : LexFault (codes "import \"a" ++ 10 ∷ []) 7 OpenText
open_text = (_, 7, codes "\"a" ++ 10 ∷ [], Lexes.token {t = codes "import"} (Spelled.a_word refl refl refl) (Lexes.blank refl Lexes.done) refl, FaultHere.open_text refl refl)

-- ---- texts

-- "\x41": one digit more than the least, and the quote
a_text : Spelled Text (codes "\"\\x41\"") []
a_text = Spelled.a_text {quote = 34} {cs = codes "\\x41"} refl (Units.escape {cs = []} {vs = []} (Escape.hexadecimal {c = 120} {n = 65} {ds = codes "41"} (inl refl) ((lit< tt, (lit< tt, tt)), refl) (inl refl)) Units.none refl) refl

-- 'a\q'
no_escape_q : LexFault (codes "'a\\q'") 2 BadToken
no_escape_q = (_, 0, codes "'a\\q'", Lexes.done, FaultHere.bad_escape {bs = codes "a\\q'"} {front = codes "a"} {rest = codes "q'"} refl refl (Units.plain refl Units.none) (no_escape (codes "q'") refl) refl)

-- a surrogate
no_surrogate : escape_len (codes "ud800'") ≡ 0
no_surrogate = refl

last_scalar : escape_len (codes "U0010ffff'") ≡ 9
last_scalar = refl

past_scalars : escape_len (codes "U00110000'") ≡ 0
past_scalars = refl

three_octal : escape_len (codes "4567") ≡ 3
three_octal = refl

no_digit : escape_len (codes "xg") ≡ 0
no_digit = refl

-- what texts mean: as many digits count as may stand there, an octal number by its low eight bits
means_line_feed : text_meaning (codes "'a\\nb'") ≡ 97 ∷ 10 ∷ 98 ∷ []
means_line_feed = refl

means_hexadecimal : text_meaning (codes "'\\x41g'") ≡ codes "Ag"
means_hexadecimal = refl

means_octal : text_meaning (codes "'\\4567'") ≡ codes ".7"
means_octal = refl

means_character : text_meaning (codes "'\\u00e9'") ≡ 195 ∷ 169 ∷ []
unfolding lib.Utf8.encode
means_character = refl

means_quote : text_meaning (codes "'\\\"\"'") ≡ codes "\"\""
means_quote = refl

-- ---- symbols

-- "a" 'b' is one text, which stands where its first one does
joined_texts : AreSymbols (token Text 3 (codes "\"a\"") ∷ token Text 7 (codes "'b'") ∷ []) (record { at = 3; symbol = Symbol.text (codes "ab") } ∷ [])
unfolding token
joined_texts =
    AreSymbols.texts (token Text 7 (codes "'b'") ∷ []) [] (
      codes "a",
      codes "b",
      (refl, 34, codes "a", refl, refl, Units.plain refl Units.none),
      (codes "b", [], (refl, 39, codes "b", refl, refl, Units.plain refl Units.none), refl, refl),
      refl,
    )
    tt AreSymbols.none refl

-- a quote after a `\` closes nothing, and a line feed there opens the text
quote_behind : is_closed 34 (codes "\\\"") ≡ false
quote_behind = refl

line_behind : is_closed 34 (92 ∷ 10 ∷ 34 ∷ []) ≡ false
line_behind = refl

slash_behind : is_closed 34 (codes "\\\\\"") ≡ true
slash_behind = refl

-- ---- integers

octal : integer_of (codes "010") ≡ Some 8
octal = refl

hexadecimal : integer_of (codes "0x1F") ≡ Some 31
hexadecimal = refl

only_zero : integer_of (codes "0") ≡ Some 0
only_zero = refl

no_octal_digit : integer_of (codes "08") ≡ None
no_octal_digit = refl

no_digits : integer_of (codes "0x") ≡ None
no_digits = refl

no_decimal : integer_of (codes "1a") ≡ None
no_decimal = refl

one_too_large : integer_of (codes "2147483648") ≡ Some 2147483648
one_too_large = refl

-- ---- floating literals

all_decimals : is_decimals (codes "08") ≡ true
all_decimals = refl

not_decimals : is_decimals (codes "0x1") ≡ false
not_decimals = refl

no_decimals : is_decimals [] ≡ false
no_decimals = refl

whole_exponent : exponent_in (codes "E10") ≡ Some false
whole_exponent = refl

open_exponent : exponent_in (codes "e") ≡ Some true
open_exponent = refl

no_exponent : exponent_in (codes "ee") ≡ None
no_exponent = refl

no_letter : exponent_in (codes "f5") ≡ None
no_letter = refl

whole_power : power_in (codes "12e5") ≡ Some false
whole_power = refl

open_power : power_in (codes "12e") ≡ Some true
open_power = refl

no_power : power_in (codes "12") ≡ None
no_power = refl

no_base : power_in (codes "e5") ≡ None
no_base = refl

-- 1.5e-3
a_float : floating (Symbol.number (codes "1") ∷ Symbol.sign (codes ".") ∷ Symbol.number (codes "5e") ∷ Symbol.sign (codes "-") ∷ Symbol.number (codes "3") ∷ [])
a_float = inl (
  Symbol.number (codes "1") ∷ [],
  _,
  (codes "1", refl, refl),
  (
    Symbol.sign (codes ".") ∷ [],
    _,
    refl,
    inr (inl (codes "5e", true, refl, (Symbol.number (codes "5e") ∷ [], _, refl, (Symbol.sign (codes "-") ∷ [], _, inl refl, (codes "3", refl, refl), refl), refl))),
    refl,
  ),
  refl,
)

-- .5
a_point : floating (Symbol.sign (codes ".") ∷ Symbol.number (codes "5") ∷ [])
a_point = inr (inr (Symbol.sign (codes ".") ∷ [], _, refl, inl (codes "5", refl, refl), refl))

-- ---- aggregates

opens_curly : role_of (Symbol.sign (codes "{")) ≡ Opens Curly
opens_curly = refl

closes_curly : role_of (Symbol.sign (codes "}")) ≡ Closes Curly
closes_curly = refl

opens_square : role_of (Symbol.sign (codes "[")) ≡ Opens Square
opens_square = refl

closes_square : role_of (Symbol.sign (codes "]")) ≡ Closes Square
closes_square = refl

opens_angle : role_of (Symbol.sign (codes "<")) ≡ Opens Angle
opens_angle = refl

closes_angle : role_of (Symbol.sign (codes ">")) ≡ Closes Angle
closes_angle = refl

no_bracket : role_of (Symbol.sign (codes "(")) ≡ Plain
no_bracket = refl

-- { a: [ ] }
an_aggregate : constant (Lenient Proto2)
    (Symbol.sign (codes "{") ∷ Symbol.word (codes "a") ∷ Symbol.sign (codes ":") ∷ Symbol.sign (codes "[") ∷ Symbol.sign (codes "]") ∷ Symbol.sign (codes "}") ∷ [])
an_aggregate = inr (inr (
  Symbol.sign (codes "{") ∷ [],
  _,
  refl,
  (
    Symbol.word (codes "a") ∷ Symbol.sign (codes ":") ∷ Symbol.sign (codes "[") ∷ Symbol.sign (codes "]") ∷ [],
    Symbol.sign (codes "}") ∷ [],
    Balanced.plain refl (Balanced.plain refl (Balanced.nested {inside = []} {close = Symbol.sign (codes "]") ∷ []} {ts = []} refl Balanced.none (Symbol.sign (codes "]"), refl, refl) Balanced.none refl)),
    (Symbol.sign (codes "}"), refl, refl),
    refl,
  ),
  refl,
))

-- (a) is a part of an option's name that counts as no word
an_extension : part (Lenient Proto3) all_rules (codes "(") (Symbol.sign (codes "(") ∷ Symbol.word (codes "a") ∷ Symbol.sign (codes ")") ∷ [])
an_extension = inr (refl, (codes "a", (Symbol.sign (codes "(") ∷ [], _, refl, (Symbol.word (codes "a") ∷ [], _, inl (codes "a" ∷ [], refl, refl), refl, refl), refl)))
