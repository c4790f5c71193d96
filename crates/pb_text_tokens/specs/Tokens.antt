-- The tokens of a text, and the fault of a text that has none (Text Format Language Specification, "Lexical Elements").
use Rattle.std.specs.Prelude.{◌≡◌, ℕ, ◌+◌, ◌<◌, ◌≤◌, List, [], ◌∷◌, length, take, drop, false, Option, Some, None, Result, Ok, Err}
use Rattle.pb_text_tokens.specs.Characters.{continues_comment, continues_word, first_of, is_blank, run_len}
use Rattle.pb_text_tokens.specs.Numbers.{kind_of_number, number_rest}
use Rattle.pb_text_tokens.specs.Strings.{Inside}
use Rattle.pb_text_tokens.specs.declared.bytes.First.{First}
use Rattle.pb_text_tokens.specs.declared.bytes.First.TheVariants as first
use Rattle.pb_text_tokens.specs.declared.fault.TokenCause.{TokenCause}
use Rattle.pb_text_tokens.specs.declared.fault.TokenCause.TheVariants.{UnexpectedByte, BadNumber}
use Rattle.pb_text_tokens.specs.declared.fault.TokenFault.{TokenFault}
use Rattle.pb_text_tokens.specs.declared.lexing.Piece.{Piece}
use Rattle.pb_text_tokens.specs.declared.lexing.Piece.TheVariants.{Gap, Token}
use Rattle.pb_text_tokens.specs.declared.lexing.PieceFault.{PieceFault}
use Rattle.pb_text_tokens.specs.declared.token.TokenKind.{TokenKind}
use Rattle.pb_text_tokens.specs.declared.token.TokenKind.TheVariants.{Word, Quoted, Mark}

-- a token, by the byte that it begins at and the bytes that it has there
pub record PlacedToken : Type 0 where
  pub kind : TokenKind
  pub at : ℕ
  pub text : List ℕ

-- ---- what bytes begin with: blanks, a comment, a token, or a fault

abbrev pub refused : ℕ → TokenCause → Result Piece PieceFault
refused n c = Err (record { offset = n; cause = c })

-- a number of n bytes
abbrev pub number_by : ℕ → Option TokenKind → Result Piece PieceFault
number_by n None = refused 0 BadNumber
number_by n (Some k) = Ok (Token k n)

abbrev pub number_piece : ℕ → List ℕ → Result Piece PieceFault
number_piece n bs = number_by n (kind_of_number (take n bs))

-- a string, by what is after its first quote
abbrev pub quoted_by : Result ℕ PieceFault → Result Piece PieceFault
quoted_by (Ok n) = Ok (Token Quoted (1 + n))
quoted_by (Err e) = refused (1 + e.offset) e.cause

abbrev pub IsQuoted : ℕ → List ℕ → Result Piece PieceFault → Type 0
IsQuoted quote cs o = (r : Result ℕ PieceFault) × Inside quote cs r × (o ≡ quoted_by r)

abbrev pub ByFirst : First → ℕ → List ℕ → Result Piece PieceFault → Type 0
ByFirst first.Blank c cs o = o ≡ Ok (Gap (1 + run_len is_blank cs))
ByFirst first.Comment c cs o = o ≡ Ok (Gap (1 + run_len continues_comment cs))
ByFirst first.Word c cs o = o ≡ Ok (Token Word (1 + run_len continues_word cs))
ByFirst first.Number c cs o = o ≡ number_piece (1 + number_rest false cs) (c ∷ cs)
ByFirst first.Quote c cs o = IsQuoted c cs o
ByFirst first.Mark c cs o = o ≡ Ok (Token Mark 1)
ByFirst first.Other c cs o = o ≡ refused 0 UnexpectedByte

abbrev pub Begins : List ℕ → Result Piece PieceFault → Type 0
Begins [] o = ⊥
Begins (c ∷ cs) o = ByFirst (first_of (c ∷ cs)) c cs o

-- ---- a whole text

-- a text's tokens, or its fault
abbrev pub Lexed : Type 0
Lexed = Result (List PlacedToken) TokenFault

abbrev pub with_token : PlacedToken → Lexed → Lexed
with_token t (Ok ts) = Ok (t ∷ ts)
with_token t (Err e) = Err e

abbrev pub placed : TokenKind → ℕ → List ℕ → PlacedToken
placed k x t = record { kind = k; at = x; text = t }

abbrev pub fault_at : ℕ → PieceFault → TokenFault
fault_at x e = record { byte = x + e.offset; cause = e.cause }

-- From a byte on, with the bytes there, one piece comes after another to the end, or to the first fault.
pub data Lexes : ℕ → List ℕ → Lexed → Type 0 where
  done : {x : ℕ} → Lexes x [] (Ok [])
  gap : {x : ℕ} (n : ℕ) {bs : List ℕ} {o : Lexed} → Begins bs (Ok (Gap n)) → Lexes (x + n) (drop n bs) o → Lexes x bs o
  token :
      {x : ℕ} (k : TokenKind) (n : ℕ) {bs : List ℕ} {o r : Lexed} → Begins bs (Ok (Token k n)) → Lexes (x + n) (drop n bs) o
      → r ≡ with_token (placed k x (take n bs)) o → Lexes x bs r
  fault : {x : ℕ} (e : PieceFault) {bs : List ℕ} {r : Lexed} → Begins bs (Err e) → r ≡ Err (fault_at x e) → Lexes x bs r

-- the tokens of a text
abbrev pub AreTokens : List ℕ → List PlacedToken → Type 0
AreTokens bs ts = Lexes 0 bs (Ok ts)

-- the fault of a text that has none
abbrev pub HasFault : List ℕ → TokenFault → Type 0
HasFault bs e = Lexes 0 bs (Err e)

-- a piece is within the bytes, and has some
abbrev pub IsPieceOf : List ℕ → Piece → Type 0
IsPieceOf bs (Gap n) = (0 < n) × (n ≤ length bs)
IsPieceOf bs (Token k n) = (0 < n) × (n ≤ length bs)
