-- The readers of the lines that statements are made of: of each line of `Phrases` one.
use Rattle.std.specs.Prelude.{ℕ, zero, suc, nat_le, ℤ, pos, neg_ℤ, List, [], ◌∷◌, codes, Bool, true, false, if◌then◌else◌, Option, Some, None, Err, option_map}
use Rattle.std.specs.Str.{bytes_eq, is_utf8}
use Rattle.pb_declarations.specs.declared.decl.TypeCode.{TypeCode}
use Rattle.pb_source_tokens.specs.declared.rule.Rule.TheVariants.{NumbersFit as numbers_fit, OptionsKnown as options_known, TextsValid as texts_valid}
use Rattle.pb_source_tokens.specs.Symbols.{Symbol, word, number, text, sign}
use Rattle.pb_source_tokens.specs.Integers.{integer_of}
use Rattle.pb_source_tokens.specs.Said.{TypeSaid, a_scalar, a_name, joined, last_said}
use Rattle.pb_source_tokens.specs.Floats.{scaled_in, fraction_in, begun_in, is_decimals}
use Rattle.pb_source_tokens.specs.Aggregates.{role_of, same_bracket}
use Rattle.pb_source_tokens.specs.declared.bracket.Bracket.{Bracket}
use Rattle.pb_source_tokens.specs.declared.bracket.Bracket.TheVariants.{Curly}
use Rattle.pb_source_tokens.specs.declared.bracket.Role.{Role}
use Rattle.pb_source_tokens.specs.declared.bracket.Role.TheVariants.{Plain, Opens, Closes}
use Rattle.pb_source_tokens.specs.declared.parsing.floats.Begun.{Begun}
use Rattle.pb_source_tokens.specs.declared.parsing.floats.Begun.TheVariants.{Whole, Open, MayPoint, MustPoint}
use Rattle.pb_source_tokens.specs.declared.grammar.Grammar.{Grammar}
use Rattle.pb_source_tokens.specs.declared.grammar.Grammar.TheVariants.{Strict, Lenient}
use Rattle.pb_source_tokens.specs.declared.grammar.Syntax.TheVariants.{Proto2, Proto3}
use Rattle.pb_source_tokens.specs.Phrases.{is_the_name, found_in, key_words, scalar_code, end_behind}
use Rattle.pb_source_tokens.specs.Readers.Forms.{Reader, answer, chain, mapped, preceded, before, choice, by_kind, symbol, plain}
use Rattle.pb_source_tokens.specs.Readers.Forms.{judged, is_keyword, is_mark, tested, keyword_reader, mark_reader, separated}

abbrev pub is_dot : Symbol → Bool
is_dot = is_mark (codes ".")

abbrev pub is_comma : Symbol → Bool
is_comma = is_mark (codes ",")

-- item { "," item }
abbrev pub listed : {I : Type 0} → ℕ → Reader I → Reader (List I)
listed n item = separated n is_comma item (mark_reader (codes ","))

-- ---- names

abbrev pub word_in : Symbol → Option (List ℕ)
word_in (word w) = Some w
word_in (number w) = None
word_in (text b) = None
word_in (sign c) = None

-- a name: any word
unfoldable pub name_reader : Reader (List ℕ)
name_reader = symbol (plain word_in)

-- word { "." word }
unfoldable pub fullname_reader : ℕ → Reader (List (List ℕ))
fullname_reader n = separated n is_dot name_reader (mark_reader (codes "."))

-- [ "." ] fullname, as it is written
unfoldable pub typename_reader : ℕ → Reader (List ℕ)
typename_reader n =
    choice is_dot (preceded (mark_reader (codes ".")) (mapped (λ ws. 46 ∷ joined ws) (fullname_reader n))) (mapped joined (fullname_reader n))

-- ---- integers

abbrev pub integer_in : Symbol → Option ℕ
integer_in (number w) = integer_of w
integer_in (word w) = None
integer_in (text b) = None
integer_in (sign c) = None

abbrev pub limited_in : ℕ → Symbol → Option (ℕ × Bool)
limited_in limit s = option_map (λ n. (n, nat_le n limit)) (integer_in s)

-- an integer up to a limit
unfoldable pub limited_reader : ℕ → Reader ℕ
limited_reader limit = symbol (judged numbers_fit (limited_in limit))

abbrev pub counted_reader : Reader ℕ
counted_reader = limited_reader 2147483647

-- [ "-" ] integer
unfoldable pub signed_reader : Reader ℤ
signed_reader =
    choice (is_mark (codes "-")) (preceded (mark_reader (codes "-")) (mapped (λ n. neg_ℤ (pos n)) (limited_reader 2147483648))) (mapped pos counted_reader)

-- ---- options

abbrev pub text_in : Symbol → Option (List ℕ)
text_in (text b) = Some b
text_in (word w) = None
text_in (number w) = None
text_in (sign c) = None

abbrev pub is_text : Symbol → Bool
is_text (text b) = true
is_text (word w) = false
is_text (number w) = false
is_text (sign c) = false

abbrev pub is_word : Symbol → Bool
is_word (word w) = true
is_word (number w) = false
is_word (text b) = false
is_word (sign c) = false

abbrev pub is_number : Symbol → Bool
is_number (number w) = true
is_number (word w) = false
is_number (text b) = false
is_number (sign c) = false

-- [ "-" | "+" ]
unfoldable pub plus_or_minus_reader : Reader (Unit {0})
plus_or_minus_reader =
    choice (is_mark (codes "-")) (mark_reader (codes "-")) (choice (is_mark (codes "+")) (mark_reader (codes "+")) (answer tt))

-- decimals
abbrev pub decimals_in : Symbol → Option (Unit {0})
decimals_in (number w) = if is_decimals w then Some tt else None
decimals_in (word w) = None
decimals_in (text b) = None
decimals_in (sign c) = None

-- "-" | "+"
unfoldable pub sign_reader : Reader (Unit {0})
sign_reader = choice (is_mark (codes "-")) (mark_reader (codes "-")) (mark_reader (codes "+"))

-- the sign and the decimals of an exponent, where they follow
unfoldable pub exponent_end_reader : Bool → Reader (Unit {0})
exponent_end_reader true = preceded sign_reader (symbol (plain decimals_in))
exponent_end_reader false = answer tt

-- decimals [ exponent ]
unfoldable pub scaled_reader : Reader (Unit {0})
scaled_reader = chain (symbol (plain scaled_in)) exponent_end_reader

abbrev pub begins_fraction : Symbol → Bool
begins_fraction (word w) = true
begins_fraction (number w) = true
begins_fraction (text b) = false
begins_fraction (sign c) = false

-- [ decimals ] [ exponent ]
unfoldable pub fraction_reader : Reader (Unit {0})
fraction_reader = choice begins_fraction (chain (symbol (plain fraction_in)) exponent_end_reader) (answer tt)

-- the rest of what a number word begins
unfoldable pub begun_end_reader : Begun → Reader (Unit {0})
begun_end_reader Whole = answer tt
begun_end_reader Open = exponent_end_reader true
begun_end_reader MayPoint = choice is_dot (preceded (mark_reader (codes ".")) fraction_reader) (answer tt)
begun_end_reader MustPoint = preceded (mark_reader (codes ".")) fraction_reader

-- an integer or a floating literal, without its sign
unfoldable pub numeral_reader : Reader (Unit {0})
numeral_reader = choice is_dot (preceded (mark_reader (codes ".")) scaled_reader) (chain (symbol (plain begun_in)) begun_end_reader)

abbrev pub behind_role : Bracket → List Bracket → Role → Option (List Bracket)
behind_role b bs Plain = Some (b ∷ bs)
behind_role b bs (Opens c) = Some (c ∷ b ∷ bs)
behind_role b bs (Closes c) = if same_bracket b c then Some bs else None

-- the brackets that are open, the last one first, after one more symbol
abbrev pub open_after : List Bracket → Symbol → Option (List Bracket)
open_after [] s = None
open_after (b ∷ bs) s = behind_role b bs (role_of s)

-- symbols up to that which closes the first bracket that is open
abbrev pub closed_reader : ℕ → List Bracket → Reader (Unit {0})
closed_reader zero [] = answer tt
closed_reader zero (b ∷ bs) = λ rules ts. Err ([], None)
closed_reader (suc n) [] = answer tt
closed_reader (suc n) (b ∷ bs) = chain (symbol (plain (open_after (b ∷ bs)))) (closed_reader n)

-- "{" { any symbol } "}"
unfoldable pub aggregate_reader : ℕ → Reader (Unit {0})
aggregate_reader n = preceded (mark_reader (codes "{")) (closed_reader n (Curly ∷ []))

-- integer | fullname
abbrev pub plain_value_reader : ℕ → Reader (Unit {0})
plain_value_reader n = choice is_number (mapped (λ _. tt) (symbol (plain integer_in))) (mapped (λ _. tt) (fullname_reader n))

-- integer | floatLit | fullname
abbrev pub any_value_reader : ℕ → Reader (Unit {0})
any_value_reader n = choice is_word (mapped (λ _. tt) (fullname_reader n)) numeral_reader

-- the same with its sign
unfoldable pub signed_value_reader : Grammar → ℕ → Reader (Unit {0})
signed_value_reader Strict n = preceded plus_or_minus_reader (plain_value_reader n)
signed_value_reader (Lenient s) n = preceded plus_or_minus_reader (any_value_reader n)

abbrev pub braced_value_reader : ℕ → Reader (Unit {0})
braced_value_reader n = choice (is_mark (codes "{")) (aggregate_reader n) (signed_value_reader (Lenient Proto3) n)

-- a constant that is no text
unfoldable pub unquoted_reader : Grammar → ℕ → Reader (Unit {0})
unquoted_reader Strict n = signed_value_reader Strict n
unquoted_reader (Lenient s) n = braced_value_reader n

-- constant
unfoldable pub constant_reader : Grammar → ℕ → Reader (Unit {0})
constant_reader g n = choice is_text (tested is_text) (unquoted_reader g n)

abbrev pub part_in : Symbol → Option (List ℕ × Bool)
part_in (word w) = Some (w, true)
part_in (sign c) = if bytes_eq c (codes "(") then Some (codes "(", false) else None
part_in (number w) = None
part_in (text b) = None

-- word | "(" typename ")"
abbrev pub any_part_reader : ℕ → Reader (List ℕ)
any_part_reader n =
    choice (is_mark (codes "(")) (preceded (mark_reader (codes "(")) (before (mapped (λ _. codes "(") (typename_reader n)) (mark_reader (codes ")")))) name_reader

-- a part of an option's name
unfoldable pub part_reader : Grammar → ℕ → Reader (List ℕ)
part_reader Strict n = symbol (judged options_known part_in)
part_reader (Lenient s) n = any_part_reader n

-- optname   = part { "." part }
unfoldable pub optname_reader : Grammar → ℕ → Reader (List (List ℕ))
optname_reader g n = separated n is_dot (part_reader g n) (mark_reader (codes "."))

-- optname "=" constant
unfoldable pub assignment_reader : Grammar → ℕ → Reader (Unit {0})
assignment_reader g n = preceded (mapped (λ _. tt) (optname_reader g n)) (preceded (mark_reader (codes "=")) (constant_reader g n))

-- option    = "option" optname "=" constant ";"
unfoldable pub option_reader : Grammar → ℕ → Reader (Unit {0})
option_reader g n = preceded (keyword_reader (codes "option")) (before (assignment_reader g n) (mark_reader (codes ";")))

abbrev pub truth_in : Symbol → Option Bool
truth_in (word w) = found_in ((codes "true", true) ∷ (codes "false", false) ∷ []) w
truth_in (number w) = None
truth_in (text b) = None
truth_in (sign c) = None

-- the constant, which is true or false where the option is the one that counts
abbrev pub said_reader : Grammar → ℕ → Bool → Reader (Option Bool)
said_reader g n true = mapped Some (symbol (plain truth_in))
said_reader g n false = mapped (λ _. None) (constant_reader g n)

-- optname "=" constant, and what is said of the option of this name
unfoldable pub setting_reader : Grammar → ℕ → List ℕ → Reader (Option Bool)
setting_reader g n v = chain (optname_reader g n) (λ name. preceded (mark_reader (codes "=")) (said_reader g n (is_the_name v name)))

-- the symbol begins no option's name in a field, though it is a word
abbrev pub is_barred : Grammar → Symbol → Bool
is_barred Strict s = is_keyword (codes "default") s
is_barred (Lenient Proto2) s = false
is_barred (Lenient Proto3) s = is_keyword (codes "default") s

abbrev pub if_allowed : Grammar → Symbol → Option (Unit {0})
if_allowed g s = if is_barred g s then None else Some tt

unfoldable pub field_option_reader : Grammar → ℕ → Reader (Option Bool)
field_option_reader g n = by_kind (if_allowed g) (λ _. Some (setting_reader g n (codes "packed")))

-- opts, and the sign after them
unfoldable pub options_reader : {I : Type 0} → List ℕ → ℕ → Reader I → Reader (List I)
options_reader close n item =
    preceded (mark_reader (codes "[")) (before (listed n item) (preceded (mark_reader (codes "]")) (mark_reader close)))

-- [ opts ], and the sign after them
unfoldable pub ended_reader : List ℕ → Grammar → ℕ → Reader (Option Bool)
ended_reader close g n =
    choice (is_mark (codes "[")) (mapped (last_said None) (options_reader close n (field_option_reader g n))) (mapped (λ _. None) (mark_reader close))

-- [ opts ] ";"
abbrev pub field_end_reader : Grammar → ℕ → Reader (Option Bool)
field_end_reader = ended_reader (codes ";")

-- [ opts ] "{"
abbrev pub group_end_reader : Grammar → ℕ → Reader (Option Bool)
group_end_reader = ended_reader (codes "{")

unfoldable pub value_end_reader : Grammar → ℕ → Reader (Unit {0})
value_end_reader g n = choice (is_mark (codes "[")) (mapped (λ _. tt) (options_reader (codes ";") n (assignment_reader g n))) (mark_reader (codes ";"))

-- ---- types

abbrev pub type_of_word : List ℕ → Option TypeCode → TypeSaid
type_of_word w None = a_name w
type_of_word w (Some c) = a_scalar c

-- the type of these words, with no dot before them
abbrev pub type_of : List (List ℕ) → TypeSaid
type_of [] = a_name []
type_of (w ∷ []) = type_of_word w (scalar_code w)
type_of (w ∷ v ∷ ws) = a_name (joined (w ∷ v ∷ ws))

-- type      = scalar word | typename
unfoldable pub type_reader : ℕ → Reader TypeSaid
type_reader n =
    choice is_dot (preceded (mark_reader (codes ".")) (mapped (λ ws. a_name (46 ∷ joined ws)) (fullname_reader n))) (mapped type_of (fullname_reader n))

abbrev pub key_in : Symbol → Option TypeCode
key_in (word w) = found_in key_words w
key_in (number w) = None
key_in (text b) = None
key_in (sign c) = None

-- keytype
unfoldable pub key_reader : Reader TypeCode
key_reader = symbol (plain key_in)

-- ---- reserved

-- bound [ "to" ( bound | "max" ) ]
unfoldable pub range_reader : Reader ℤ → (ℤ → ℤ) → ℤ → Reader (ℤ × ℤ)
range_reader bound end greatest =
    chain bound (λ a. choice (is_keyword (codes "to"))
    (preceded (keyword_reader (codes "to")) (choice (is_keyword (codes "max"))
    (mapped (λ _. (a, greatest)) (keyword_reader (codes "max"))) (mapped (λ z. (a, end z)) bound)))
    (answer (a, end a)))

abbrev pub message_range_reader : Reader (ℤ × ℤ)
message_range_reader = range_reader (mapped pos counted_reader) end_behind (pos 536870912)

abbrev pub enum_range_reader : Reader (ℤ × ℤ)
enum_range_reader = range_reader signed_reader (λ z. z) (pos 2147483647)

abbrev pub utf8_in : Symbol → Option (List ℕ × Bool)
utf8_in (text b) = Some (b, is_utf8 b)
utf8_in (word w) = None
utf8_in (number w) = None
utf8_in (sign c) = None

unfoldable pub utf8_reader : Reader (List ℕ)
utf8_reader = symbol (judged texts_valid utf8_in)
