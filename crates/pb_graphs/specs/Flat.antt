-- A graph whose lists are parts of one list, each after the one before.
use Rattle.std.specs.Prelude.{◌≡◌, ◌≤◌, ◌-◌, ℕ, List, [], ◌∷◌, ◌++◌, length, take, drop}
use Rattle.std.specs.List.{AllByRecursion}
use Rattle.pb_graphs.specs.declared.flat.FlatGraph.{FlatGraph}

-- the items of a list from one position up to another
abbrev pub part_of : List ℕ → ℕ → ℕ → List ℕ
part_of targets start end = take (end - start) (drop start targets)

-- the parts of a list that end at these places, each of which begins where the one before it ends
abbrev pub parts_of : List ℕ → ℕ → List ℕ → List (List ℕ)
parts_of targets start [] = []
parts_of targets start (end ∷ ends) = part_of targets start end ∷ parts_of targets end ends

-- what comes after these parts
abbrev pub behind_parts : List ℕ → ℕ → List ℕ → List ℕ
behind_parts targets start [] = drop start targets
behind_parts targets start (end ∷ ends) = behind_parts targets end ends

-- where each index leads
abbrev pub lists_of : FlatGraph → List (List ℕ)
lists_of f = parts_of f.targets.items 0 f.ends.items

-- the list that has no end yet
abbrev pub open_list : FlatGraph → List ℕ
open_list f = behind_parts f.targets.items 0 f.ends.items

-- each list ends among the targets
abbrev pub IsLaid : FlatGraph → Type 0
IsLaid f = AllByRecursion (λ end. end ≤ length f.targets.items) f.ends.items

-- the open list grows by these, and the others stay
pub record Grows (targets : List ℕ) (old new : FlatGraph) : Type 0 where
  pub lists : lists_of new ≡ lists_of old
  pub grown : open_list new ≡ open_list old ++ targets
  pub laid : IsLaid old → IsLaid new
