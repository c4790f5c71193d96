use Rattle.std.proofs.Common.{◌-◌, ◌^◌, ◌≤◌, length}
use Rattle.pb_compat.specs.Walk.{AreCompared}
use Rattle.pb_compat.proofs.comparing.compare_few.Given as goal

abbrev pub invariant-loop-from : goal.invariant-loop-from
invariant-loop-from l = AreCompared l.old l.new l.starts l.pairs l.compared.items × (length l.compared.items ≤ l.max_pairs)

abbrev pub decreases-loop-from : goal.decreases-loop-from
decreases-loop-from l = 2 ^ 64 - length l.compared.items
