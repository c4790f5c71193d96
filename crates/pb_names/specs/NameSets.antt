-- Sets of names.
use Rattle.std.specs.Prelude.{ℕ, List, [], ◌∷◌, ◌++◌, if◌then◌else◌}
use Rattle.std.specs.List.{list_any}
use Rattle.std.specs.Str.{bytes_eq}

-- a set of names, as contracts see it
abbrev pub NameSet : Type 0
NameSet = List (List ℕ)

-- the names of a set, in the order in which each came first
abbrev pub names_in : NameSet → List (List ℕ)
names_in s = s

-- these names and one more, which comes last where it is new
abbrev pub with_name : List ℕ → List (List ℕ) → List (List ℕ)
with_name name names = if list_any (bytes_eq name) names then names else names ++ name ∷ []
