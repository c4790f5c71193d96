-- What the fields of a text are, and what is wrong with bytes that are no text.
use Rattle.std.specs.Prelude.{◌≡◌, ◌⊎◌, ℕ, List, length, Ok, Err}
use Rattle.pb_text_tokens.specs.Tokens.{PlacedToken, AreTokens, HasFault as HasTokenFault}
use Rattle.pb_text_tokens.specs.declared.fault.TokenFault.{TokenFault}
use Rattle.pb_text_tree.specs.Fault.{fault_of}
use Rattle.pb_text_tree.specs.Grammar.{Reads, Text}
use Rattle.pb_text_tree.specs.Tree.{Fields}
use Rattle.pb_text_tree.specs.declared.fault.SyntaxFault.{SyntaxFault}

abbrev pub text : List PlacedToken → List ℕ → Text
text ts bs = record { tokens = ts; size = length bs }

-- the bytes have tokens, which are these fields, with messages nested no deeper than the number
unfoldable pub IsTextWithin : ℕ → List ℕ → Fields → Type 0
IsTextWithin levels bs fs = (ts : List PlacedToken) × (n : ℕ) × AreTokens bs ts × Reads levels (text ts bs) (Ok (fs, n))

-- the bytes have no tokens, or tokens that are no fields
unfoldable pub HasFaultWithin : ℕ → List ℕ → SyntaxFault → Type 0
HasFaultWithin levels bs e =
    ((f : TokenFault) × HasTokenFault bs f × (e ≡ fault_of f))
    ⊎ ((ts : List PlacedToken) × AreTokens bs ts × Reads levels (text ts bs) (Err e))

-- how deep messages may nest below the whole text
abbrev pub max_depth : ℕ
max_depth = 100

abbrev pub IsText : List ℕ → Fields → Type 0
IsText bs fs = IsTextWithin max_depth bs fs

abbrev pub HasFault : List ℕ → SyntaxFault → Type 0
HasFault bs e = HasFaultWithin max_depth bs e
