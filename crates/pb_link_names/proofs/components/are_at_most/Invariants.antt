use Rattle.std.proofs.Common.{ℕ, ◌<◌, ◌≤◌, get_or}
use Rattle.pb_link_names.specs.Components.{number_of}
use Rattle.pb_link_names.proofs.components.are_at_most.Given as goal

abbrev pub invariant-loop-index : goal.invariant-loop-index
invariant-loop-index l = (k d : ℕ) → k < l.index-index → number_of l.numbers (get_or l.indexes k d) ≤ l.bound
