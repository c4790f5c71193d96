-- The lines of the grammar that statements are made of: names, integers, options, types and what is reserved, as the language specification has
-- them (Protocol Buffers Language Specification (Proto3)). R ▸ S is R, then S; a language that depends on a value holds the words that mean the value.
use Prim.Native.String.{String}
use Rattle.std.specs.Prelude.{◌≡◌, ℕ, suc, ◌≤◌, min, ℤ, pos, negsuc, neg_ℤ, List, [], ◌∷◌, codes}
use Rattle.std.specs.Prelude.{Bool, true, false, ◌||◌, if◌then◌else◌, Option, Some, None, ◌⊎◌, IsUtf8}
use Rattle.std.specs.Str.{bytes_eq}
use Rattle.pb_declarations.specs.declared.decl.TypeCode.{TypeCode}
use Rattle.pb_declarations.specs.declared.decl.TypeCode.TheVariants as code
use Rattle.pb_source_tokens.specs.declared.rule.Rule.TheVariants.{NumbersFit as numbers_fit, OptionsKnown as options_known, TextsValid as texts_valid}
use Rattle.pb_source_tokens.specs.Symbols.{word, number, text, sign}
use Rattle.pb_source_tokens.specs.Integers.{integer_of}
use Rattle.pb_source_tokens.specs.Language.{Language, ◌▸◌, ◌or◌, one, nothing, Rules}
use Rattle.pb_source_tokens.specs.Said.{TypeSaid, a_scalar, a_name, joined, last_said}
use Rattle.pb_source_tokens.specs.Floats.{is_decimals, power_in, exponent_in}
use Rattle.pb_source_tokens.specs.Aggregates.{Balanced, closing}
use Rattle.pb_source_tokens.specs.declared.bracket.Bracket.TheVariants.{Curly}
use Rattle.pb_source_tokens.specs.declared.grammar.Grammar.{Grammar}
use Rattle.pb_source_tokens.specs.declared.grammar.Grammar.TheVariants.{Strict, Lenient}
use Rattle.pb_source_tokens.specs.declared.grammar.Syntax.TheVariants.{Proto2, Proto3}

-- ---- words, signs and repetition

abbrev pub keyword : String → Language
keyword w = one (word (codes w))

abbrev pub mark : String → Language
mark s = one (sign (codes s))

-- a name: any word
abbrev pub name : List ℕ → Language
name w = one (word w)

-- { item } close
abbrev pub Until : {I : Type 0} → (I → Language) → Language → List I → Language
Until Item close [] = close
Until Item close (i ∷ is) = Item i ▸ Until Item close is

-- item { separator item }
abbrev pub Separated : {I : Type 0} → (I → Language) → Language → List I → Language
Separated Item separator [] = λ ts. ⊥
Separated Item separator (i ∷ []) = Item i
Separated Item separator (i ∷ j ∷ is) = Item i ▸ separator ▸ Separated Item separator (j ∷ is)

-- item { "," item }
abbrev pub Listed : {I : Type 0} → (I → Language) → List I → Language
Listed Item = Separated Item (mark ",")

-- the word is one of these
abbrev pub is_one_of : List String → List ℕ → Bool
is_one_of [] w = false
is_one_of (v ∷ vs) w = bytes_eq w (codes v) || is_one_of vs w

-- the first symbol is none of these words
abbrev pub BeginsNot : List String → Language
BeginsNot vs [] = Unit {0}
BeginsNot vs (word w ∷ ts) = is_one_of vs w ≡ false
BeginsNot vs (number w ∷ ts) = Unit {0}
BeginsNot vs (text b ∷ ts) = Unit {0}
BeginsNot vs (sign c ∷ ts) = Unit {0}

-- fullname  = word { "." word }
abbrev pub fullname : List (List ℕ) → Language
fullname = Separated name (mark ".")

-- typename  = [ "." ] fullname
abbrev pub typename : List ℕ → Language
typename n ts =
    ((ws : List (List ℕ)) × (n ≡ joined ws) × fullname ws ts) ⊎ ((ws : List (List ℕ)) × (n ≡ 46 ∷ joined ws) × (mark "." ▸ fullname ws) ts)

-- ---- integers

abbrev pub integer : ℕ → Language
integer n ts = (digits : List ℕ) × (integer_of digits ≡ Some n) × one (number digits) ts

-- an integer up to a limit, or any where the rule on numbers is left out
abbrev pub limited : ℕ → Rules → ℕ → Language
limited limit rules n ts = ((n ≤ limit) ⊎ (rules numbers_fit ≡ false)) × integer n ts

-- a field number, a bound or an enum number fits 32 bits
abbrev pub counted : Rules → ℕ → Language
counted = limited 2147483647

-- [ "-" ] integer
abbrev pub signed : Rules → ℤ → Language
signed rules z ts =
    ((n : ℕ) × (z ≡ pos n) × counted rules n ts) ⊎ ((n : ℕ) × (z ≡ neg_ℤ (pos n)) × (mark "-" ▸ limited 2147483648 rules n) ts)

-- ---- options

-- [ "-" | "+" ]
abbrev pub plus_or_minus : Language
plus_or_minus = mark "-" or mark "+" or nothing

-- decimals
abbrev pub decimals : Language
decimals ts = (w : List ℕ) × (is_decimals w ≡ true) × one (number w) ts

-- what follows an exponent in a word: its sign and decimals, where the word has its letter alone
abbrev pub exponent_end : Bool → Language
exponent_end false = nothing
exponent_end true = (mark "-" or mark "+") ▸ decimals

-- decimals exponent
abbrev pub powered : Language
powered ts = (w : List ℕ) × (is_open : Bool) × (power_in w ≡ Some is_open) × (one (number w) ▸ exponent_end is_open) ts

-- exponent
abbrev pub exponent : Language
exponent ts = (w : List ℕ) × (is_open : Bool) × (exponent_in w ≡ Some is_open) × (one (word w) ▸ exponent_end is_open) ts

-- floatLit  = decimals "." [ decimals ] [ exponent ] | decimals exponent | "." decimals [ exponent ]; `inf` and `nan` are names
abbrev pub floating : Language
floating = (decimals ▸ mark "." ▸ (decimals or powered or exponent or nothing)) or powered or (mark "." ▸ (decimals or powered))

-- "{" { any symbol } "}", with balanced brackets
abbrev pub aggregate : Language
aggregate = mark "{" ▸ Balanced ▸ closing Curly

-- constant  = [ "-" | "+" ] integer | [ "-" | "+" ] fullname | text
abbrev pub plain_constant : Language
plain_constant ts =
    ((b : List ℕ) × one (text b) ts) ⊎ (((n : ℕ) × (plus_or_minus ▸ integer n) ts) ⊎ ((ws : List (List ℕ)) × (plus_or_minus ▸ fullname ws) ts))

-- In the lenient grammars: constant | [ "-" | "+" ] floatLit | aggregate
abbrev pub constant : Grammar → Language
constant Strict = plain_constant
constant (Lenient s) = plain_constant or (plus_or_minus ▸ floating) or aggregate

-- A part of an option's name. In the lenient grammars: word | "(" typename ")". Where the rule on options is left out a parenthesis is one.
abbrev pub part : Grammar → Rules → List ℕ → Language
part Strict rules w ts = name w ts ⊎ ((rules options_known ≡ false) × (w ≡ codes "(") × mark "(" ts)
part (Lenient s) rules w ts = name w ts ⊎ ((w ≡ codes "(") × ((n : List ℕ) × (mark "(" ▸ typename n ▸ mark ")") ts))

-- optname   = part { "." part }
abbrev pub optname : Grammar → Rules → List (List ℕ) → Language
optname g rules = Separated (part g rules) (mark ".")

-- optname "=" constant
abbrev pub assignment : Grammar → Rules → Language
assignment g rules ts = (n : List (List ℕ)) × (optname g rules n ▸ mark "=" ▸ constant g) ts

-- option    = "option" optname "=" constant ";"
abbrev pub option : Grammar → Rules → Language
option g rules = keyword "option" ▸ assignment g rules ▸ mark ";"

abbrev pub truth : Bool → Language
truth true = keyword "true"
truth false = keyword "false"

-- the name is this word alone
abbrev pub is_the_name : List ℕ → List (List ℕ) → Bool
is_the_name v [] = false
is_the_name v (w ∷ []) = bytes_eq w v
is_the_name v (w ∷ u ∷ ws) = false

-- an assignment where the option of this name is true or false, and what is said of it
abbrev pub setting : Grammar → List ℕ → Rules → Option Bool → Language
setting g v rules (Some b) ts = (optname g rules (v ∷ []) ▸ mark "=" ▸ truth b) ts
setting g v rules None ts = (n : List (List ℕ)) × (is_the_name v n ≡ false) × (optname g rules n ▸ mark "=" ▸ constant g) ts

-- the words that begin no option's name in a field: `default`, but in proto2
abbrev pub barred : Grammar → List String
barred Strict = "default" ∷ []
barred (Lenient Proto2) = []
barred (Lenient Proto3) = "default" ∷ []

abbrev pub field_option : Grammar → Rules → Option Bool → Language
field_option g rules s ts = BeginsNot (barred g) ts × setting g (codes "packed") rules s ts

-- opts      = "[" optname "=" constant { "," optname "=" constant } "]", and the sign after them
abbrev pub options : {I : Type 0} → String → (I → Language) → List I → Language
options close Option is = mark "[" ▸ Listed Option is ▸ mark "]" ▸ mark close

-- [ opts ], and the sign after them
abbrev pub ended : String → Grammar → Rules → Option Bool → Language
ended close g rules packed ts =
    ((packed ≡ None) × mark close ts) ⊎ ((ss : List (Option Bool)) × (packed ≡ last_said None ss) × options close (field_option g rules) ss ts)

-- [ opts ] ";"
abbrev pub field_end : Grammar → Rules → Option Bool → Language
field_end = ended ";"

-- [ opts ] "{"
abbrev pub group_end : Grammar → Rules → Option Bool → Language
group_end = ended "{"

-- the same after an enum's value, where no option means anything
abbrev pub value_end : Grammar → Rules → Language
value_end g rules ts = mark ";" ts ⊎ ((us : List (Unit {0})) × options ";" (λ _. assignment g rules) us ts)

-- ---- types

abbrev pub scalar_words : List (List ℕ × TypeCode)
scalar_words =
    (codes "double", code.Double) ∷ (codes "float", code.Float)
    ∷ (codes "int32", code.Int32) ∷ (codes "int64", code.Int64) ∷ (codes "uint32", code.Uint32) ∷ (codes "uint64", code.Uint64)
    ∷ (codes "sint32", code.Sint32) ∷ (codes "sint64", code.Sint64) ∷ (codes "fixed32", code.Fixed32) ∷ (codes "fixed64", code.Fixed64)
    ∷ (codes "sfixed32", code.Sfixed32) ∷ (codes "sfixed64", code.Sfixed64)
    ∷ (codes "bool", code.Bool) ∷ (codes "string", code.Text) ∷ (codes "bytes", code.Bytes) ∷ []

abbrev pub found_in : {X : Type 0} → List (List ℕ × X) → List ℕ → Option X
found_in [] w = None
found_in (e ∷ es) w = if bytes_eq w e.0 then Some e.1 else found_in es w

-- the type of a scalar's word
abbrev pub scalar_code : List ℕ → Option TypeCode
scalar_code = found_in scalar_words

-- the words of types that keys may have: no floating type, and no bytes
abbrev pub key_words : List (List ℕ × TypeCode)
key_words =
    (codes "int32", code.Int32) ∷ (codes "int64", code.Int64) ∷ (codes "uint32", code.Uint32) ∷ (codes "uint64", code.Uint64) ∷ (codes "sint32", code.Sint32)
    ∷ (codes "sint64", code.Sint64) ∷ (codes "fixed32", code.Fixed32) ∷ (codes "fixed64", code.Fixed64) ∷ (codes "sfixed32", code.Sfixed32)
    ∷ (codes "sfixed64", code.Sfixed64) ∷ (codes "bool", code.Bool) ∷ (codes "string", code.Text) ∷ []

-- keytype   = an integer scalar word, "bool" or "string"
abbrev pub key_type : TypeCode → Language
key_type c ts = (w : List ℕ) × (found_in key_words w ≡ Some c) × name w ts

-- type      = scalar word | typename; a scalar's word alone always means the scalar
abbrev pub typed : TypeSaid → Language
typed (a_scalar c) ts = (w : List ℕ) × (scalar_code w ≡ Some c) × name w ts
typed (a_name n) ts = typename n ts × ((w : List ℕ) → name w ts → scalar_code w ≡ None)

-- ---- reserved

-- range     = bound [ "to" ( bound | "max" ) ], with the end that a bound means, and the greatest end
abbrev pub range : (ℤ → Language) → (ℤ → ℤ) → ℤ → (ℤ × ℤ) → Language
range bound end greatest r ts =
    ((r.1 ≡ end r.0) × bound r.0 ts)
    ⊎ (((m : ℤ) × (r.1 ≡ end m) × (bound r.0 ▸ keyword "to" ▸ bound m) ts)
    ⊎ ((r.1 ≡ greatest) × (bound r.0 ▸ keyword "to" ▸ keyword "max") ts))

abbrev pub unsigned : Rules → ℤ → Language
unsigned rules z ts = (n : ℕ) × (z ≡ pos n) × counted rules n ts

-- an end after the bound, which is itself within 32 bits
abbrev pub end_behind : ℤ → ℤ
end_behind z = by_sign z
  where
    by_sign : ℤ → ℤ
    by_sign (pos n) = pos (min (suc n) 2147483647)
    by_sign (negsuc n) = negsuc n

-- in a message an end comes after its range
abbrev pub message_range : Rules → (ℤ × ℤ) → Language
message_range rules = range (unsigned rules) end_behind (pos 536870912)

-- in an enum an end is in its range
abbrev pub enum_range : Rules → (ℤ × ℤ) → Language
enum_range rules = range (signed rules) (λ z. z) (pos 2147483647)

-- a text that is UTF-8, or any where the rule on texts is left out
abbrev pub utf8_text : Rules → List ℕ → Language
utf8_text rules b ts = (IsUtf8 b ⊎ (rules texts_valid ≡ false)) × one (text b) ts
