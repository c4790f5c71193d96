-- Names that are added one after another.
use Rattle.std.specs.Prelude.{ℕ, ◌≡◌, ◌↔◌, List, ◌++◌, IsTrue, Contains}
use Rattle.pb_names.specs.NameSets.{names_in}
use Rattle.pb_schema.specs.declared.names.set.AddedNames.{AddedNames}
use Rattle.pb_schema.specs.Names.{AllDiffer}

-- these names were added; where they differ they are in their order
pub record IsSetOf (names : List (List ℕ)) (s : AddedNames) : Type 0 where
  pub members : (x : List ℕ) → Contains (names_in s.set) x ↔ Contains names x
  pub differ : IsTrue s.differ ↔ AllDiffer names
  pub ordered : IsTrue s.differ → names_in s.set ≡ names

-- these names are added
abbrev pub Adds : List (List ℕ) → AddedNames → AddedNames → Type 0
Adds names old new = (before : List (List ℕ)) → IsSetOf before old → IsSetOf (before ++ names) new
