-- Which messages are declared in which.
use Rattle.std.specs.Prelude.{◌≡◌, ◌<◌, ℕ, List, Option, Some, slice_get, option_and_then}
use Rattle.pb_schema.specs.Types.{MessageView}

-- the message that one is declared in directly
abbrev pub parent_of : List MessageView → ℕ → Option ℕ
parent_of ms m = option_and_then (λ t. t.parent) (slice_get ms m)

-- message m is message p, or is declared in it at any depth
pub data IsWithin (ms : List MessageView) (p : ℕ) : ℕ → Type 0 where
  itself : IsWithin ms p p
  deeper : {m q : ℕ} → parent_of ms m ≡ Some q → IsWithin ms p q → IsWithin ms p m

-- of the first n messages each comes after its parent
abbrev pub ParentsStandBefore : List MessageView → ℕ → Type 0
ParentsStandBefore ms n = (m p : ℕ) → m < n → parent_of ms m ≡ Some p → p < m
