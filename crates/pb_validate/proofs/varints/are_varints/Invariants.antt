use Rattle.std.proofs.Common.{◌-◌, ◌≤◌, length}
use Rattle.pb_validate.specs.Whole.{Begun}
use Rattle.pb_validate.proofs.varints.are_varints.Given as goal

abbrev pub invariant-loop-at : goal.invariant-loop-at
invariant-loop-at l = (l.at ≤ length l.bytes) × Begun l.bytes l.at l.begun

abbrev pub decreases-loop-at : goal.decreases-loop-at
decreases-loop-at l = length l.bytes - l.at

abbrev pub invariant-loop-at-2 : goal.invariant-loop-at-2
invariant-loop-at-2 l = (l.at ≤ length l.bytes) × Begun l.bytes l.at l.begun

abbrev pub decreases-loop-at-2 : goal.decreases-loop-at-2
decreases-loop-at-2 l = length l.bytes - l.at
