use Rattle.pb_graphs.specs.Flat.{lists_of}
use Rattle.pb_graphs.proofs.CycleLemmas.{Walk, IsOnward, work}
use Rattle.pb_graphs.proofs.cycles.walk_from.Given as goal

abbrev pub invariant-loop-index : goal.invariant-loop-index
invariant-loop-index l =
    Walk (lists_of l.graph) l.progress.items l.path.items × IsOnward l.start l.fn.progress.items l.progress.items

abbrev pub decreases-loop-index : goal.decreases-loop-index
decreases-loop-index l = work (lists_of l.graph) l.progress.items l.path.items
