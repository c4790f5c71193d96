use Rattle.std.proofs.Common.{◌≡◌, vec_len}
use Rattle.pb_graphs.proofs.ReachLemmas.{Clears}
use Rattle.pb_graphs.proofs.reach.Reach.clear.Given as goal

abbrev pub invariant-loop-index : goal.invariant-loop-index
invariant-loop-index l = Clears l.self × (vec_len l.self.bits ≡ vec_len l.initial.self.bits)

abbrev pub decreases-loop-index : goal.decreases-loop-index
decreases-loop-index l = vec_len l.self.reached
