-- The tokens of a source, and the fault of a source that has none (Protocol Buffers Language Specification (Proto3), "Lexical Elements").
use Rattle.std.specs.Prelude.{◌≡◌, ◌≢◌, ℕ, suc, ◌+◌, ◌%◌, ◌<◌, List, [], ◌∷◌, ◌++◌, length, Bool, true, false}
use Rattle.std.specs.Prelude.{not, ◌&&◌, ◌||◌, ◌==◌, if◌then◌else◌, Option, Some, None, ◌⊎◌, encode_utf8}
use Rattle.std.specs.List.{list_all}
use Rattle.std.specs.Char.{is_ascii_digit, is_ascii_punctuation, is_digit}
use Rattle.std.specs.Int.{is_in_range}
use Rattle.std.specs.Str.Parse.{AllDigits, digits_value}
pub use Rattle.pb_schema.specs.Names.{begins_word, continues_word}
use Rattle.pb_source_tokens.specs.declared.token.TokenKind.{TokenKind}
use Rattle.pb_source_tokens.specs.declared.token.TokenKind.TheVariants.{Word, Number, Text, Sign}
use Rattle.pb_source_tokens.specs.declared.fault.SourceCause.{SourceCause}
use Rattle.pb_source_tokens.specs.declared.fault.SourceCause.TheVariants.{BadToken, OpenComment, OpenText}

-- a token, by the byte that it begins at and the bytes that it has there
pub record PlacedToken : Type 0 where
  pub kind : TokenKind
  pub at : ℕ
  pub text : List ℕ

-- ---- bytes ("Letters and Digits", "Identifiers"); what begins and goes on a word is what it is in names that are declared

-- `"` or `'`
abbrev pub is_quote : ℕ → Bool
is_quote c = c == 34 || c == 39

-- any other punctuation of ASCII
abbrev pub is_sign : ℕ → Bool
is_sign c = is_ascii_punctuation c && not (is_quote c || c == 95)

-- space, tab, line feed, vertical tab, form feed, carriage return
abbrev pub is_blank : ℕ → Bool
is_blank c = c == 32 || is_in_range 9 13 c

-- the bytes don't begin with one that passes
abbrev pub Stops : (ℕ → Bool) → List ℕ → Type 0
Stops test [] = Unit {0}
Stops test (c ∷ cs) = test c ≡ false

-- ---- comments

-- `*/` is in the bytes
abbrev pub has_close : List ℕ → Bool
has_close [] = false
has_close (c ∷ []) = false
has_close (c ∷ d ∷ cs) = (c == 42 && d == 47) || has_close (d ∷ cs)

-- no line feed
abbrev pub goes_on_line : ℕ → Bool
goes_on_line c = not (c == 10)

-- after a slash
abbrev pub begins_comment : ℕ → Bool
begins_comment c = c == 47 || c == 42

-- a comment, by what follows it: to the line's end, or to the next `*/`
pub data Comment : List ℕ → List ℕ → Type 0 where
  to_line_end : (body rest : List ℕ) → list_all goes_on_line body ≡ true → Stops goes_on_line rest → Comment (47 ∷ 47 ∷ body) rest
  to_close : (body rest : List ℕ) → has_close (body ++ 42 ∷ []) ≡ false → Comment (47 ∷ 42 ∷ body ++ 42 ∷ 47 ∷ []) rest

-- ---- texts ("String literals")

-- the byte after `\` in an escape of one byte, and what it means
abbrev pub short_escape : ℕ → Option ℕ
short_escape c =
    if c == 97 then Some 7 else if c == 98 then Some 8 else if c == 102 then Some 12 else if c == 110 then Some 10 else if c == 114 then Some 13
    else if c == 116 then Some 9 else if c == 118 then Some 11 else if c == 92 || c == 39 || c == 34 || c == 63 then Some c else None

-- the number of these digits, each a digit of the base
abbrev pub AreDigits : ℕ → List ℕ → ℕ → Type 0
AreDigits base ds n = AllDigits base ds × (digits_value base ds ≡ n)

-- An escape, the bytes that it means, and what follows it. Numbers of a length that may differ are as long as they can be.
pub data Escape : List ℕ → List ℕ → List ℕ → Type 0 where
  short : {c v : ℕ} {rest : List ℕ} → short_escape c ≡ Some v → Escape (92 ∷ c ∷ []) (v ∷ []) rest
  hexadecimal :
      {c n : ℕ} {ds rest : List ℕ} → (c ≡ 120) ⊎ (c ≡ 88) → AreDigits 16 ds n → (length ds ≡ 2) ⊎ ((length ds ≡ 1) × Stops (λ c. is_digit c 16) rest)
      → Escape (92 ∷ c ∷ ds) (n ∷ []) rest
  octal :
      {n : ℕ} {ds rest : List ℕ} → AreDigits 8 ds n → (length ds ≡ 3) ⊎ ((0 < length ds) × (length ds < 3) × Stops (λ c. is_digit c 8) rest)
      → Escape (92 ∷ ds) (n % 256 ∷ []) rest
  unicode :
      {c n : ℕ} {ds rest : List ℕ} → ((c ≡ 117) × (length ds ≡ 4)) ⊎ ((c ≡ 85) × (length ds ≡ 8)) → AreDigits 16 ds n
      → (n < 55296) ⊎ ((57343 < n) × (n < 1114112)) → Escape (92 ∷ c ∷ ds) (encode_utf8 n) rest

-- a byte that means itself in a string with this quote
abbrev pub is_plain : ℕ → ℕ → Bool
is_plain quote c = not (c == quote || c == 92 || c == 10 || c == 0)

-- what is between the quotes, what it means, and what follows
pub data Units (quote : ℕ) : List ℕ → List ℕ → List ℕ → Type 0 where
  none : {rest : List ℕ} → Units quote [] [] rest
  plain : {c : ℕ} {cs vs rest : List ℕ} → is_plain quote c ≡ true → Units quote cs vs rest → Units quote (c ∷ cs) (c ∷ vs) rest
  escape : {e v cs vs es rest : List ℕ} → Escape e v (cs ++ rest) → Units quote cs vs rest → es ≡ e ++ cs → Units quote es (v ++ vs) rest

-- A text's quote comes before a line feed and the end, not counting what comes after a `\`, as the first byte does where the flag says so.
abbrev pub closes : ℕ → Bool → List ℕ → Bool
closes quote escaped [] = false
closes quote escaped (c ∷ cs) = if c == 10 then false else (if not escaped && c == quote then true else closes quote (not escaped && c == 92) cs)

abbrev pub is_closed : ℕ → List ℕ → Bool
is_closed quote bs = closes quote false bs

-- ---- tokens

-- the bytes are a token of the kind, and what follows does not make it longer
pub data Spelled : TokenKind → List ℕ → List ℕ → Type 0 where
  a_word : {c : ℕ} {cs rest : List ℕ} → begins_word c ≡ true → list_all continues_word cs ≡ true → Stops continues_word rest → Spelled Word (c ∷ cs) rest
  a_number : {c : ℕ} {cs rest : List ℕ} → is_ascii_digit c ≡ true → list_all continues_word cs ≡ true → Stops continues_word rest → Spelled Number (c ∷ cs) rest
  a_text :
      {quote : ℕ} {cs vs ts rest : List ℕ} → is_quote quote ≡ true → Units quote cs vs (quote ∷ rest) → ts ≡ quote ∷ cs ++ quote ∷ [] → Spelled Text ts rest
  a_sign : {c : ℕ} {rest : List ℕ} → is_sign c ≡ true → (c ≢ 47) ⊎ Stops begins_comment rest → Spelled Sign (c ∷ []) rest

-- From a place and the bytes there, whole tokens, with blanks and comments between, lead to another place and what is left there.
pub data Lexes : ℕ → List ℕ → List PlacedToken → ℕ → List ℕ → Type 0 where
  done : {x : ℕ} {bs : List ℕ} → Lexes x bs [] x bs
  blank : {x y c : ℕ} {bs rest : List ℕ} {ts : List PlacedToken} → is_blank c ≡ true → Lexes (suc x) bs ts y rest → Lexes x (c ∷ bs) ts y rest
  comment :
      {x y : ℕ} {c bs cs rest : List ℕ} {ts : List PlacedToken} → Comment c bs → Lexes (x + length c) bs ts y rest → cs ≡ c ++ bs → Lexes x cs ts y rest
  token :
      {x y : ℕ} {k : TokenKind} {t bs cs rest : List ℕ} {ts : List PlacedToken} → Spelled k t bs → Lexes (x + length t) bs ts y rest → cs ≡ t ++ bs
      → Lexes x cs (record { kind = k; at = x; text = t } ∷ ts) y rest

-- no escape begins here
abbrev pub NoEscape : List ℕ → Type 0
NoEscape bs = (e v rest : List ℕ) → Escape e v rest → bs ≢ e ++ rest

-- The bytes begin with no token, comment or blank.
pub data FaultHere (x : ℕ) : List ℕ → ℕ → SourceCause → Type 0 where
  open_comment : {bs : List ℕ} → has_close bs ≡ false → FaultHere x (47 ∷ 42 ∷ bs) x OpenComment
  open_text : {quote : ℕ} {bs : List ℕ} → is_quote quote ≡ true → is_closed quote bs ≡ false → FaultHere x (quote ∷ bs) x OpenText
  nul_in_text :
      {quote : ℕ} {bs front vs rest : List ℕ} → is_quote quote ≡ true → is_closed quote bs ≡ true → Units quote front vs (0 ∷ rest) → bs ≡ front ++ 0 ∷ rest
      → FaultHere x (quote ∷ bs) (suc x + length front) BadToken
  bad_escape :
      {quote : ℕ} {bs front vs rest : List ℕ} → is_quote quote ≡ true → is_closed quote bs ≡ true → Units quote front vs (92 ∷ rest) → NoEscape (92 ∷ rest)
      → bs ≡ front ++ 92 ∷ rest → FaultHere x (quote ∷ bs) (suc x + length front) BadToken
  bad_byte :
      {c : ℕ} {bs : List ℕ} → is_blank c ≡ false → continues_word c ≡ false → is_quote c ≡ false → is_sign c ≡ false → FaultHere x (c ∷ bs) x BadToken

-- ---- a whole source

-- where the first token may begin
abbrev pub after_mark : List ℕ → ℕ × List ℕ
after_mark bs = by_front bs
  where
    by_front : List ℕ → ℕ × List ℕ
    by_front (a ∷ b ∷ c ∷ cs) = if a == 239 && b == 187 && c == 191 then (3, cs) else (0, a ∷ b ∷ c ∷ cs)
    by_front cs = (0, cs)

-- the tokens of a source
abbrev pub AreTokens : List ℕ → List PlacedToken → Type 0
AreTokens bs ts = (y : ℕ) × Lexes (after_mark bs).0 (after_mark bs).1 ts y []

-- the fault of a source that has none
abbrev pub LexFault : List ℕ → ℕ → SourceCause → Type 0
LexFault bs place c = (ts : List PlacedToken) × (y : ℕ) × (rest : List ℕ) × Lexes (after_mark bs).0 (after_mark bs).1 ts y rest × FaultHere y rest place c
