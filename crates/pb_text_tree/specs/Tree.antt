-- The parts of a text. Fields, and the items of lists, are in order.
use Rattle.std.specs.Prelude.{ℕ, List, Bool}
use Rattle.pb_text_tokens.specs.declared.token.TokenKind.{TokenKind}

-- a single value: the bytes that its strings mean, or whether a minus is there, and the kind and the characters of a word or a number
pub data Scalar : Type 0 where
  quoted : List ℕ → Scalar
  plain : Bool → TokenKind → List ℕ → Scalar

pub data Name : Type 0 where
  word : List ℕ → Name
  number : List ℕ → Name
  extension : List ℕ → Name
  any : List ℕ → List ℕ → Name

-- with the byte where it begins
abbrev pub Placed : Type 0
Placed = ℕ × Scalar

mutual
  pub data Value : Type 0 where
    scalar : ℕ → Scalar → Value
    -- with the byte of its first brace
    message : ℕ → Fields → Value
    scalars : List Placed → Value
    messages : Messages → Value

  -- each with the byte where its name begins
  pub data Fields : Type 0 where
    no_fields : Fields
    field : ℕ → Name → Value → Fields → Fields

  -- each with the byte of its first brace
  pub data Messages : Type 0 where
    no_messages : Messages
    each : ℕ → Fields → Messages → Messages
