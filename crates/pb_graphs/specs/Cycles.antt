-- Graphs without a cycle.
use Rattle.std.specs.Prelude.{ℕ, List}
use Rattle.pb_graphs.specs.Reach.{next_of, Reached}

-- what an index leads to, at once or along others
abbrev pub LeadsOn : List (List ℕ) → ℕ → ℕ → Type 0
LeadsOn graph i j = Reached graph (next_of graph i) j

-- no index leads back to itself
abbrev pub IsAcyclic : List (List ℕ) → Type 0
IsAcyclic graph = (i : ℕ) → ¬ LeadsOn graph i i
