-- What the parts of the lexer say of the bytes that they look at.
use Rattle.std.specs.Prelude.{◌≡◌, ℕ, ◌<◌, ◌≤◌, List, ◌∷◌, ◌++◌, length, true, ◌⊎◌}
use Rattle.pb_source_tokens.specs.Tokens.{is_blank, Comment, Spelled}
use Rattle.pb_source_tokens.specs.declared.token.TokenKind.{TokenKind}
use Rattle.pb_source_tokens.specs.declared.lexing.Piece.{Piece}
use Rattle.pb_source_tokens.specs.declared.lexing.Piece.TheVariants as piece

-- the first n bytes are a blank or a comment
abbrev pub IsGap : ℕ → List ℕ → Type 0
IsGap n bs =
    ((n ≡ 1) × (c : ℕ) × (rest : List ℕ) × (bs ≡ c ∷ rest) × (is_blank c ≡ true))
    ⊎ ((c : List ℕ) × (rest : List ℕ) × (bs ≡ c ++ rest) × (length c ≡ n) × Comment c rest)

-- the first n bytes are a token
abbrev pub IsTokenAt : TokenKind → ℕ → List ℕ → Type 0
IsTokenAt k n bs = (t : List ℕ) × (rest : List ℕ) × (bs ≡ t ++ rest) × (length t ≡ n) × Spelled k t rest

-- the bytes begin with what the code found
abbrev pub IsPiece : List ℕ → Piece → Type 0
IsPiece bs (piece.Gap n) = (0 < n) × (n ≤ length bs) × IsGap n bs
IsPiece bs (piece.Token k n) = (0 < n) × (n ≤ length bs) × IsTokenAt k n bs
