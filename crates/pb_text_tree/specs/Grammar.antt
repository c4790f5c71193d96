-- The fields of a text (Text Format Language Specification, "Fields" and "Values"), from token to token: each definition says what is read from an
-- index on, and the index after it, or the fault, which is the first token with which no text goes on.
use Rattle.std.specs.Prelude.{◌≡◌, ℕ, zero, suc, ◌+◌, List, [], ◌∷◌, ◌++◌, Bool, true, false, not, ◌||◌, ◌==◌, if◌then◌else◌}
use Rattle.std.specs.Prelude.{Option, Some, None, Ok, Err, slice_get}
use Rattle.pb_text_tokens.specs.Strings.{string_meaning}
use Rattle.pb_text_tokens.specs.Tokens.{PlacedToken}
use Rattle.pb_text_tokens.specs.declared.token.TokenKind.{TokenKind}
use Rattle.pb_text_tokens.specs.declared.token.TokenKind.TheVariants.{Word, Decimal, Octal, Hexadecimal, Floating, Quoted, Mark}
use Rattle.pb_text_tree.specs.Tree.{Scalar, quoted, plain, Name, word, number, extension, any, Placed, Value, scalar, message, scalars, messages, Fields, no_fields, field, Messages, no_messages, each}
use Rattle.pb_text_tree.specs.View.{Named, Braced}
use Rattle.pb_text_tree.specs.declared.fault.SyntaxCause.TheVariants.{UnexpectedToken, UnexpectedEnd, TooDeep}
use Rattle.pb_text_tree.specs.declared.fault.SyntaxFault.{SyntaxFault}
use Rattle.pb_text_tree.specs.declared.source.Close.{Close}
use Rattle.pb_text_tree.specs.declared.source.Close.TheVariants as close
use Rattle.pb_text_tree.specs.Fault.{fault}
use Rattle.pb_text_tree.specs.Steps.{Read, Then, Repeats}

-- TOKENS

-- the tokens of a text, and how many bytes it has
pub record Text : Type 0 where
  pub tokens : List PlacedToken
  pub size : ℕ

-- what the grammar sees of the next token: a mark by its byte
pub data Next : Type 0 where
  a_word : List ℕ → Next
  a_number : TokenKind → List ℕ → Next
  a_string : List ℕ → Next
  a_mark : ℕ → Next
  the_end : Next

abbrev pub mark_of : List ℕ → ℕ
mark_of [] = 0
mark_of (c ∷ cs) = c

abbrev pub next_by : TokenKind → List ℕ → Next
next_by Word t = a_word t
next_by Decimal t = a_number Decimal t
next_by Octal t = a_number Octal t
next_by Hexadecimal t = a_number Hexadecimal t
next_by Floating t = a_number Floating t
next_by Quoted t = a_string t
next_by Mark t = a_mark (mark_of t)

abbrev pub next_of : Option PlacedToken → Next
next_of None = the_end
next_of (Some t) = next_by t.kind t.text

abbrev pub next_at : Text → ℕ → Next
next_at x at = next_of (slice_get x.tokens at)

abbrev pub is_mark : ℕ → Next → Bool
is_mark c (a_mark d) = c == d
is_mark c (a_word t) = false
is_mark c (a_number k t) = false
is_mark c (a_string t) = false
is_mark c the_end = false

-- the next token is this mark
abbrev pub mark_at : Text → ℕ → ℕ → Bool
mark_at x c at = is_mark c (next_at x at)

abbrev pub is_end : Next → Bool
is_end the_end = true
is_end (a_mark d) = false
is_end (a_word t) = false
is_end (a_number k t) = false
is_end (a_string t) = false

abbrev pub is_string : Next → Bool
is_string (a_string t) = true
is_string the_end = false
is_string (a_mark d) = false
is_string (a_word t) = false
is_string (a_number k t) = false

abbrev pub place_by : ℕ → Option PlacedToken → ℕ
place_by size None = size
place_by size (Some t) = t.at

-- the byte where the next token begins, or the text ends
abbrev pub byte_at : Text → ℕ → ℕ
byte_at x at = place_by x.size (slice_get x.tokens at)

abbrev pub unexpected_by : ℕ → Next → SyntaxFault
unexpected_by n the_end = fault n UnexpectedEnd
unexpected_by n (a_mark d) = fault n UnexpectedToken
unexpected_by n (a_word t) = fault n UnexpectedToken
unexpected_by n (a_number k t) = fault n UnexpectedToken
unexpected_by n (a_string t) = fault n UnexpectedToken

-- no text goes on with the next token
abbrev pub unexpected : Text → ℕ → SyntaxFault
unexpected x at = unexpected_by (byte_at x at) (next_at x at)

abbrev pub Unexpected : {A : Type 0} → Text → ℕ → Read A → Type 0
Unexpected x at o = o ≡ Err (unexpected x at)

-- one or the other
abbrev pub Choose : {A : Type 0} → Bool → (Read A → Type 0) → (Read A → Type 0) → Read A → Type 0
Choose true This That o = This o
Choose false This That o = That o

-- FIELD NAMES

abbrev pub word_by : Text → ℕ → Next → Read (List ℕ)
word_by x at (a_word w) = Ok (w, at + 1)
word_by x at (a_number k t) = Err (unexpected x at)
word_by x at (a_string t) = Err (unexpected x at)
word_by x at (a_mark c) = Err (unexpected x at)
word_by x at the_end = Err (unexpected x at)

abbrev pub word_at : Text → ℕ → Read (List ℕ)
word_at x at = word_by x at (next_at x at)

abbrev pub IsWord : Text → ℕ → Read (List ℕ) → Type 0
IsWord x at o = o ≡ word_at x at

abbrev pub no_point : Text → ℕ → Bool
no_point x at = not (mark_at x 46 at)

abbrev pub with_word : List ℕ → Read (List ℕ) → Read (List ℕ)
with_word w (Ok r) = Ok (w ++ 46 ∷ r.0, r.1)
with_word w (Err e) = Err e

-- ".", IDENT
abbrev pub AnotherWord : Text → List ℕ → ℕ → Read (List ℕ) → Type 0
AnotherWord x w at o = o ≡ with_word w (word_at x (at + 1))

abbrev pub MoreWords : Text → List ℕ → ℕ → Read (List ℕ) → Type 0
MoreWords x w at o = Repeats (no_point x) (AnotherWord x) w at o

-- TypeName, Domain  = IDENT, { ".", IDENT }
abbrev pub Dotted : Text → ℕ → Read (List ℕ) → Type 0
Dotted x at o = Then (IsWord x at) (MoreWords x) o

-- "]" after a name
abbrev pub closed : Text → Name → ℕ → Read Name
closed x name at = if mark_at x 93 at then Ok (name, at + 1) else Err (unexpected x at)

abbrev pub AnyClosed : Text → List ℕ → List ℕ → ℕ → Read Name → Type 0
AnyClosed x domain m at o = o ≡ closed x (any domain m) at

abbrev pub ExtensionClosed : Text → List ℕ → ℕ → Read Name → Type 0
ExtensionClosed x w at o = o ≡ closed x (extension w) at

-- "/", TypeName, "]"
abbrev pub AfterDomain : Text → List ℕ → ℕ → Read Name → Type 0
AfterDomain x domain at o = Then (Dotted x (at + 1)) (AnyClosed x domain) o

abbrev pub AfterWords : Text → List ℕ → ℕ → Read Name → Type 0
AfterWords x w at o = Choose (mark_at x 47 at) (AfterDomain x w at) (ExtensionClosed x w at) o

-- ExtensionName  = "[", TypeName, "]" ; AnyName  = "[", Domain, "/", TypeName, "]"
abbrev pub Bracketed : Text → ℕ → Read Name → Type 0
Bracketed x at o = Then (Dotted x (at + 1)) (AfterWords x) o

abbrev pub number_name : Text → ℕ → TokenKind → List ℕ → Read Name
number_name x at Decimal t = Ok (number t, at + 1)
number_name x at Word t = Err (unexpected x at)
number_name x at Octal t = Err (unexpected x at)
number_name x at Hexadecimal t = Err (unexpected x at)
number_name x at Floating t = Err (unexpected x at)
number_name x at Quoted t = Err (unexpected x at)
number_name x at Mark t = Err (unexpected x at)

abbrev pub MarkName : Text → ℕ → ℕ → Read Name → Type 0
MarkName x at c o = Choose (c == 91) (Bracketed x at) (Unexpected x at) o

abbrev pub NameBy : Text → ℕ → Next → Read Name → Type 0
NameBy x at (a_word w) o = o ≡ Ok (word w, at + 1)
NameBy x at (a_number k t) o = o ≡ number_name x at k t
NameBy x at (a_mark c) o = MarkName x at c o
NameBy x at (a_string t) o = Unexpected x at o
NameBy x at the_end o = Unexpected x at o

-- FieldName  = ExtensionName | AnyName | IDENT, or the number of an unknown field
abbrev pub NameAt : Text → ℕ → Read Name → Type 0
NameAt x at o = NameBy x at (next_at x at) o

-- SCALARS

abbrev pub no_string : Text → ℕ → Bool
no_string x at = not (is_string (next_at x at))

abbrev pub string_by : Text → ℕ → List ℕ → Next → Read (List ℕ)
string_by x at s (a_string t) = Ok (s ++ string_meaning t, at + 1)
string_by x at s (a_word w) = Err (unexpected x at)
string_by x at s (a_number k t) = Err (unexpected x at)
string_by x at s (a_mark c) = Err (unexpected x at)
string_by x at s the_end = Err (unexpected x at)

abbrev pub AnotherString : Text → List ℕ → ℕ → Read (List ℕ) → Type 0
AnotherString x s at o = o ≡ string_by x at s (next_at x at)

abbrev pub AsQuoted : List ℕ → ℕ → Read Scalar → Type 0
AsQuoted s at o = o ≡ Ok (quoted s, at)

-- String  = STRING, { STRING }, after the first one
abbrev pub MoreStrings : Text → List ℕ → ℕ → Read Scalar → Type 0
MoreStrings x s at o = Then (Repeats (no_string x) (AnotherString x) s at) AsQuoted o

-- a word or a number, after a minus or without one
abbrev pub plain_by : Text → ℕ → Bool → Next → Read Scalar
plain_by x at negative (a_word w) = Ok (plain negative Word w, at + 1)
plain_by x at negative (a_number k t) = Ok (plain negative k t, at + 1)
plain_by x at negative (a_string t) = Err (unexpected x at)
plain_by x at negative (a_mark c) = Err (unexpected x at)
plain_by x at negative the_end = Err (unexpected x at)

abbrev pub plain_at : Text → Bool → ℕ → Read Scalar
plain_at x negative at = plain_by x at negative (next_at x at)

abbrev pub IsPlain : Text → Bool → ℕ → Read Scalar → Type 0
IsPlain x negative at o = o ≡ plain_at x negative at

abbrev pub MarkScalar : Text → ℕ → ℕ → Read Scalar → Type 0
MarkScalar x at c o = Choose (c == 45) (IsPlain x true (at + 1)) (IsPlain x false at) o

abbrev pub ScalarBy : Text → ℕ → Next → Read Scalar → Type 0
ScalarBy x at (a_string t) o = MoreStrings x (string_meaning t) (at + 1) o
ScalarBy x at (a_mark c) o = MarkScalar x at c o
ScalarBy x at (a_word w) o = IsPlain x false at o
ScalarBy x at (a_number k t) o = IsPlain x false at o
ScalarBy x at the_end o = IsPlain x false at o

-- ScalarValue  = String | [ "-" ], ( FLOAT | DEC_INT | OCT_INT | HEX_INT | IDENT )
abbrev pub ScalarAt : Text → ℕ → Read Scalar → Type 0
ScalarAt x at o = ScalarBy x at (next_at x at) o

abbrev pub AsPlaced : Text → ℕ → Scalar → ℕ → Read Placed → Type 0
AsPlaced x at s n o = o ≡ Ok ((byte_at x at, s), n)

abbrev pub PlacedAt : Text → ℕ → Read Placed → Type 0
PlacedAt x at o = Then (ScalarAt x at) (AsPlaced x at) o

-- LISTS OF SCALARS

abbrev pub ends_list : Text → ℕ → Bool
ends_list x at = mark_at x 93 at

-- "]" after what was read
abbrev pub Closing : {A : Type 0} → A → ℕ → Read A → Type 0
Closing v at o = o ≡ Ok (v, at + 1)

abbrev pub joined_placed : List Placed → Placed → List Placed
joined_placed ps p = ps ++ p ∷ []

abbrev pub WithPlaced : List Placed → Placed → ℕ → Read (List Placed) → Type 0
WithPlaced ps p at o = o ≡ Ok (joined_placed ps p, at)

-- ",", ScalarValue
abbrev pub NextScalar : Text → ℕ → Read Placed → Type 0
NextScalar x at o = Choose (mark_at x 44 at) (PlacedAt x (at + 1)) (Unexpected x at) o

abbrev pub AnotherScalar : Text → List Placed → ℕ → Read (List Placed) → Type 0
AnotherScalar x ps at o = Then (NextScalar x at) (WithPlaced ps) o

-- { ",", ScalarValue }, "]"
abbrev pub MoreScalars : Text → List Placed → ℕ → Read (List Placed) → Type 0
MoreScalars x ps at o = Then (Repeats (ends_list x) (AnotherScalar x) ps at) Closing o

abbrev pub AfterScalar : Text → Placed → ℕ → Read (List Placed) → Type 0
AfterScalar x p at o = MoreScalars x (joined_placed [] p) at o

-- ScalarValue, { ",", ScalarValue }, "]"
abbrev pub ScalarsAt : Text → ℕ → Read (List Placed) → Type 0
ScalarsAt x at o = Then (PlacedAt x at) (AfterScalar x) o

-- MESSAGES

abbrev pub opens : Text → ℕ → Bool
opens x at = mark_at x 123 at || mark_at x 60 at

-- the mark that closes what this one opens
abbrev pub closing : Text → ℕ → ℕ
closing x at = if mark_at x 123 at then 125 else 62

abbrev pub ends_at : Text → Close → ℕ → Bool
ends_at x close.End at = is_end (next_at x at)
ends_at x (close.Mark c) at = mark_at x c at

-- [ "," | ";" ]
abbrev pub after_separator : Text → ℕ → ℕ
after_separator x at = if mark_at x 44 at || mark_at x 59 at then at + 1 else at

-- the index after a mark, if there is this one
abbrev pub after_mark : Text → ℕ → ℕ → ℕ
after_mark x c at = if mark_at x c at then at + 1 else at

abbrev pub with_field : Fields → Named → Fields
with_field no_fields f = field f.0 f.1 f.2 no_fields
with_field (field at name v fs) f = field at name v (with_field fs f)

abbrev pub with_message : Messages → Braced → Messages
with_message no_messages m = each m.0 m.1 no_messages
with_message (each at fs ms) m = each at fs (with_message ms m)

abbrev pub empty_list : Bool → Value
empty_list true = scalars []
empty_list false = messages no_messages

abbrev pub EmptyList : Bool → ℕ → Read Value → Type 0
EmptyList colon at o = o ≡ Ok (empty_list colon, at + 2)

abbrev pub AsScalar : Placed → ℕ → Read Value → Type 0
AsScalar s at o = o ≡ Ok (scalar s.0 s.1, at)

abbrev pub AsScalars : List Placed → ℕ → Read Value → Type 0
AsScalars ss at o = o ≡ Ok (scalars ss, at)

abbrev pub AsMessage : Braced → ℕ → Read Value → Type 0
AsMessage m at o = o ≡ Ok (message m.0 m.1, at)

abbrev pub AsMessages : Messages → ℕ → Read Value → Type 0
AsMessages ms at o = o ≡ Ok (messages ms, at)

abbrev pub PlacedValue : Text → ℕ → Read Value → Type 0
PlacedValue x at o = Then (PlacedAt x at) AsScalar o

abbrev pub ScalarsValue : Text → ℕ → Read Value → Type 0
ScalarsValue x at o = Then (ScalarsAt x at) AsScalars o

abbrev pub WithMessage : Messages → Braced → ℕ → Read Messages → Type 0
WithMessage ms m at o = o ≡ Ok (with_message ms m, at)

abbrev pub AsNamed : Text → ℕ → Name → Value → ℕ → Read Named → Type 0
AsNamed x at name v n o = o ≡ Ok ((byte_at x at, name, v), after_separator x n)

abbrev pub WithField : Fields → Named → ℕ → Read Fields → Type 0
WithField fs f at o = o ≡ Ok (with_field fs f, at)

abbrev pub AsBraced : Text → ℕ → Fields → ℕ → Read Braced → Type 0
AsBraced x at fs n o = o ≡ Ok ((byte_at x at, fs), n + 1)

-- by how the messages inside are read
module _ (x : Text) (Inside : ℕ → Read Braced → Type 0) where
  -- ",", MessageValue
  abbrev pub NextMessage : ℕ → Read Braced → Type 0
  NextMessage at o = Choose (mark_at x 44 at) (Inside (at + 1)) (Unexpected x at) o

  abbrev pub AnotherMessage : Messages → ℕ → Read Messages → Type 0
  AnotherMessage ms at o = Then (NextMessage at) (WithMessage ms) o

  -- { ",", MessageValue }, "]"
  abbrev pub MoreMessages : Messages → ℕ → Read Messages → Type 0
  MoreMessages ms at o = Then (Repeats (ends_list x) AnotherMessage ms at) Closing o

  abbrev pub AfterMessage : Braced → ℕ → Read Messages → Type 0
  AfterMessage m at o = MoreMessages (with_message no_messages m) at o

  -- MessageValue, { ",", MessageValue }, "]"
  abbrev pub MessagesAt : ℕ → Read Messages → Type 0
  MessagesAt at o = Then (Inside at) AfterMessage o

  abbrev pub MessagesValue : ℕ → Read Value → Type 0
  MessagesValue at o = Then (MessagesAt at) AsMessages o

  abbrev pub MessageValue : ℕ → Read Value → Type 0
  MessageValue at o = Then (Inside at) AsMessage o

  -- the items of a list; of scalars only after a colon
  abbrev pub ScalarItems : Bool → ℕ → Read Value → Type 0
  ScalarItems colon at o = Choose colon (ScalarsValue x at) (Unexpected x at) o

  abbrev pub ItemsAt : Bool → ℕ → Read Value → Type 0
  ItemsAt colon at o = Choose (opens x at) (MessagesValue at) (ScalarItems colon at) o

  -- ScalarList, MessageList
  abbrev pub ListAt : Bool → ℕ → Read Value → Type 0
  ListAt colon at o = Choose (mark_at x 93 (at + 1)) (EmptyList colon at) (ItemsAt colon (at + 1)) o

  -- a scalar only after a colon
  abbrev pub ScalarItem : Bool → ℕ → Read Value → Type 0
  ScalarItem colon at o = Choose colon (PlacedValue x at) (Unexpected x at) o

  abbrev pub NoMessage : Bool → ℕ → Read Value → Type 0
  NoMessage colon at o = Choose (mark_at x 91 at) (ListAt colon at) (ScalarItem colon at) o

  -- what follows the colon, if there is one
  abbrev pub AfterColon : Bool → ℕ → Read Value → Type 0
  AfterColon colon at o = Choose (opens x at) (MessageValue at) (NoMessage colon at) o

  -- [ ":" ], ( MessageValue | MessageList ) | ":", ( ScalarValue | ScalarList )
  abbrev pub ValueAt : ℕ → Read Value → Type 0
  ValueAt at o = AfterColon (mark_at x 58 at) (after_mark x 58 at) o

  abbrev pub AfterName : ℕ → Name → ℕ → Read Named → Type 0
  AfterName at name n o = Then (ValueAt n) (AsNamed x at name) o

  -- Field  = FieldName, value, [ "," | ";" ]
  abbrev pub FieldAt : ℕ → Read Named → Type 0
  FieldAt at o = Then (NameAt x at) (AfterName at) o

  abbrev pub AnotherField : Fields → ℕ → Read Fields → Type 0
  AnotherField fs at o = Then (FieldAt at) (WithField fs) o

  -- Message  = { Field }
  abbrev pub FieldsAt : Close → ℕ → Read Fields → Type 0
  FieldsAt end at o = Repeats (ends_at x end) AnotherField no_fields at o

abbrev pub TooDeepAt : Text → ℕ → Read Braced → Type 0
TooDeepAt x at o = o ≡ Err (fault (byte_at x at) TooDeep)

-- MessageValue  = "{", Message, "}" | "<", Message, ">", with messages nested no deeper than the number
abbrev pub MessageAt : Text → ℕ → ℕ → Read Braced → Type 0
MessageAt x zero at o = Choose (opens x at) (TooDeepAt x at) (Unexpected x at) o
MessageAt x (suc levels) at o =
    Choose (opens x at) (λ r. Then (FieldsAt x (λ n q. MessageAt x levels n q) (close.Mark (closing x at)) (at + 1)) (AsBraced x at) r) (Unexpected x at) o

-- the fields of a whole text, or its fault, with messages nested no deeper than the number
abbrev pub Reads : ℕ → Text → Read Fields → Type 0
Reads levels x o = FieldsAt x (MessageAt x levels) close.End 0 o
