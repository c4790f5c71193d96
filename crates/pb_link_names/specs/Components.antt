-- Components of a graph by numbers: what a walk has to do, and what its numbers are looked at for.
use Rattle.std.specs.Prelude.{◌≡◌, ◌<◌, ◌≤◌, ◌+◌, ℕ, List, [], ◌∷◌, length, All, vec_len}
use Rattle.std.specs.List.{slice_index_or}
use Rattle.pb_graphs.specs.Reach.{next_of}
use Rattle.pb_link_names.specs.declared.components.Progress.{Progress}
use Rattle.pb_link_names.specs.declared.components.Progress.TheVariants.{Unseen, Open, Numbered}
use Rattle.pb_link_names.specs.declared.components.Walk.{Walk}

-- a number for each index, and the open ones are among them
pub record Fits (w : Walk) : Type 0 where
  pub numbers : vec_len w.numbers ≡ vec_len w.progress
  pub within : All (λ i. i < vec_len w.progress) w.opened.items

-- an index that was not seen has to be left, and all that it leads to entered
abbrev pub weight : Progress → List ℕ → ℕ
weight Unseen next = length next + 1
weight (Open place) next = 0
weight Numbered next = 0

abbrev pub unseen_work : List (List ℕ) → List Progress → ℕ
unseen_work graph [] = 0
unseen_work [] (p ∷ ps) = weight p [] + unseen_work [] ps
unseen_work (next ∷ graph) (p ∷ ps) = weight p next + unseen_work graph ps

-- the steps that are left
abbrev pub work_left : List (List ℕ) → Walk → ℕ
work_left graph w = unseen_work graph w.progress.items + length w.steps.items

abbrev pub number_of : List ℕ → ℕ → ℕ
number_of numbers i = slice_index_or numbers i 0

-- along the graph no number rises
abbrev pub NeverRise : List (List ℕ) → List ℕ → Type 0
NeverRise graph numbers = (i : ℕ) → All (λ j. number_of numbers j ≤ number_of numbers i) (next_of graph i)
