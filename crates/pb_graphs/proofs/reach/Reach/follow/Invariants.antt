use Rattle.std.proofs.Common.{◌+◌, ◌-◌, ◌*◌, length}
use Rattle.pb_graphs.specs.Reach.{clear_count}
use Rattle.pb_graphs.proofs.ReachLemmas.{Walk}
use Rattle.pb_graphs.proofs.reach.Reach.follow.Given as goal

abbrev pub invariant-loop-at : goal.invariant-loop-at
invariant-loop-at g l = Walk (g.G.Graph.lists l.graph) l.initial.self.reached.items l.self l.at

abbrev pub decreases-loop-at : goal.decreases-loop-at
decreases-loop-at g l = 2 * clear_count l.self.bits.items + (length l.self.reached.items - l.at)
