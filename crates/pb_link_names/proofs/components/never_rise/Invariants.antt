use Rattle.std.proofs.Common.{ℕ, ◌<◌, ◌≤◌, All}
use Rattle.pb_graphs.specs.Flat.{lists_of}
use Rattle.pb_graphs.specs.Reach.{next_of}
use Rattle.pb_link_names.specs.Components.{number_of}
use Rattle.pb_link_names.proofs.components.never_rise.Given as goal

abbrev pub invariant-loop-index : goal.invariant-loop-index
invariant-loop-index l =
    (i : ℕ) → i < l.index → All (λ j. number_of l.numbers j ≤ number_of l.numbers i) (next_of (lists_of l.graph) i)
