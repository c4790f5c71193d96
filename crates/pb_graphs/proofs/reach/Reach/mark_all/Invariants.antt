use Rattle.std.proofs.Common.{take}
use Rattle.pb_graphs.specs.Reach.{Marks}
use Rattle.pb_graphs.proofs.reach.Reach.mark_all.Given as goal

abbrev pub invariant-loop-index : goal.invariant-loop-index
invariant-loop-index l = Marks (take l.index-index l.indexes) l.initial.self l.self
