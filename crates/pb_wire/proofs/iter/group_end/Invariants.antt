use Rattle.std.proofs.Common.{◌-◌, ◌≤◌, length, ℕ}
use Rattle.pb_wire.proofs.Nesting.{Nested}
use Rattle.pb_wire.proofs.iter.group_end.Given as goal

abbrev pub invariant-records : goal.invariant-records
invariant-records l =
    (l.start ≤ l.here) × (l.here ≤ length l.bytes) × (depth_left : ℕ) × Nested l.bytes l.number (l.max_depth - 1) l.start depth_left l.groups l.here

abbrev pub decreases-records : goal.decreases-records
decreases-records l = length l.bytes - l.here
