use Rattle.std.proofs.Common.{◌≡◌, [], take}
use Rattle.pb_graphs.specs.Flat.{lists_of, open_list, IsLaid}
use Rattle.pb_graphs.proofs.flat.FlatGraph.copy_of.Given as goal

abbrev pub invariant-loop-index : goal.invariant-loop-index
invariant-loop-index g l =
    (lists_of l.flat ≡ take l.index (g.G.Graph.lists l.graph)) × (open_list l.flat ≡ []) × IsLaid l.flat
