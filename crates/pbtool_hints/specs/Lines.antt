-- Lines for a person.
use Rattle.std.specs.Prelude.{◌≡◌, ◌≢◌, ℕ, List, [], ◌++◌, codes}
use Rattle.std.specs.List.{AllByRecursion}

-- a line: two blanks, bytes that are no line feed, and a line feed
pub record IsLine (line : List ℕ) : Type 0 where
  pub inside : List ℕ
  pub whole : line ≡ codes "  " ++ inside ++ codes "\n"
  pub one : AllByRecursion (λ b. b ≢ 10) inside

-- lines, one after another
pub data AreLines : List ℕ → Type 0 where
  none : AreLines []
  then : (before line : List ℕ) → AreLines before → IsLine line → AreLines (before ++ line)
