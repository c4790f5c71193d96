-- What a walk over a graph, depth first, keeps and answers.
use Rattle.std.specs.Prelude.{◌≡◌, ◌≢◌, ℕ, List, length, Bool, true, false, Contains}
use Rattle.std.specs.List.{slice_index_or}
use Rattle.pb_graphs.specs.declared.cycles.Progress.{Progress}
use Rattle.pb_graphs.specs.declared.cycles.Progress.TheVariants.{Unseen, Open, Done}
use Rattle.pb_graphs.specs.Reach.{next_of}
use Rattle.pb_graphs.specs.Cycles.{LeadsOn}

-- how far the walk is with an index; one that isn't there is unseen
abbrev pub progress_of : List Progress → ℕ → Progress
progress_of progress i = slice_index_or progress i Unseen

-- what an index that is done leads to is done too, and it doesn't lead back to itself
pub record AreDone (graph : List (List ℕ)) (progress : List Progress) : Type 0 where
  pub size : length progress ≡ length graph
  pub closed : (i j : ℕ) → progress_of progress i ≡ Done → Contains (next_of graph i) j → progress_of progress j ≡ Done
  pub acyclic : (i : ℕ) → progress_of progress i ≡ Done → ¬ LeadsOn graph i i

-- between walks: each index is done, or was not seen
pub record AreSettled (graph : List (List ℕ)) (progress : List Progress) : Type 0 where
  pub done : AreDone graph progress
  pub none_open : (i : ℕ) → progress_of progress i ≢ Open

-- A walk that goes through leaves its start done, and what was done before; one that doesn't has met a cycle.
abbrev pub AnswersWalk : List (List ℕ) → ℕ → List Progress → List Progress → Bool → Type 0
AnswersWalk graph start old new true =
    AreSettled graph new × (progress_of new start ≡ Done) × ((i : ℕ) → progress_of old i ≡ Done → progress_of new i ≡ Done)
AnswersWalk graph start old new false = (i : ℕ) × LeadsOn graph i i
