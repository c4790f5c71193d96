use Rattle.std.proofs.Common.{◌≡◌, ℕ, ◌<◌, []}
use Rattle.pb_graphs.specs.declared.cycles.Progress.TheVariants.{Done}
use Rattle.pb_graphs.specs.Flat.{lists_of}
use Rattle.pb_graphs.specs.Walks.{AreSettled, progress_of}
use Rattle.pb_graphs.proofs.cycles.is_acyclic.Given as goal

abbrev pub invariant-loop-index : goal.invariant-loop-index
invariant-loop-index l =
    AreSettled (lists_of l.graph) l.progress.items × ((k : ℕ) → k < l.index → progress_of l.progress.items k ≡ Done) × (l.path.items ≡ [])
