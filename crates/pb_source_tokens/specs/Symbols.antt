-- The symbols of the grammar: the tokens of a source, where texts that follow one another are one, by the bytes that they mean (Protocol Buffers
-- Language Specification (Proto3), "String literals").
use Rattle.std.specs.Prelude.{◌≡◌, ◌≢◌, ℕ, List, [], ◌∷◌, ◌++◌, true}
use Rattle.pb_source_tokens.specs.Tokens.{PlacedToken, Units, is_quote}
use Rattle.pb_source_tokens.specs.declared.token.TokenKind.TheVariants.{Word, Number, Text, Sign}

pub data Symbol : Type 0 where
  -- a letter or `_`, then letters, digits and `_`
  word : List ℕ → Symbol
  -- a digit, then letters, digits and `_`
  number : List ℕ → Symbol
  -- one or more texts, by the bytes that they mean, joined
  text : List ℕ → Symbol
  -- one byte of punctuation
  sign : List ℕ → Symbol

-- a symbol, and the byte that it begins at
pub record PlacedSymbol : Type 0 where
  pub at : ℕ
  pub symbol : Symbol

-- the bytes that a text means
abbrev pub Means : PlacedToken → List ℕ → Type 0
Means t vs = (t.kind ≡ Text) × (quote : ℕ) × (cs : List ℕ) × (is_quote quote ≡ true) × (t.text ≡ quote ∷ cs ++ quote ∷ []) × Units quote cs vs (quote ∷ [])

-- texts that follow one another, joined
abbrev pub Joined : List PlacedToken → List ℕ → Type 0
Joined [] vs = vs ≡ []
Joined (t ∷ ts) vs = (xs : List ℕ) × (ys : List ℕ) × Means t xs × Joined ts ys × (vs ≡ xs ++ ys)

abbrev pub BeginsNoText : List PlacedToken → Type 0
BeginsNoText [] = Unit {0}
BeginsNoText (t ∷ ts) = t.kind ≢ Text

-- the symbols of tokens: as many texts as follow one another are one
pub data AreSymbols : List PlacedToken → List PlacedSymbol → Type 0 where
  none : AreSymbols [] []
  a_word :
      {t : PlacedToken} {ts : List PlacedToken} {ss : List PlacedSymbol}
      → t.kind ≡ Word → AreSymbols ts ss → AreSymbols (t ∷ ts) (record { at = t.at; symbol = word t.text } ∷ ss)
  a_number :
      {t : PlacedToken} {ts : List PlacedToken} {ss : List PlacedSymbol}
      → t.kind ≡ Number → AreSymbols ts ss → AreSymbols (t ∷ ts) (record { at = t.at; symbol = number t.text } ∷ ss)
  a_sign :
      {t : PlacedToken} {ts : List PlacedToken} {ss : List PlacedSymbol}
      → t.kind ≡ Sign → AreSymbols ts ss → AreSymbols (t ∷ ts) (record { at = t.at; symbol = sign t.text } ∷ ss)
  texts :
      {t : PlacedToken} (run ts : List PlacedToken) {all : List PlacedToken} {ss : List PlacedSymbol} {vs : List ℕ}
      → Joined (t ∷ run) vs → BeginsNoText ts → AreSymbols ts ss → all ≡ t ∷ run ++ ts → AreSymbols all (record { at = t.at; symbol = text vs } ∷ ss)

-- a text among tokens means something
abbrev pub IsMeant : PlacedToken → Type 0
IsMeant t = t.kind ≡ Text → (vs : List ℕ) × Means t vs
