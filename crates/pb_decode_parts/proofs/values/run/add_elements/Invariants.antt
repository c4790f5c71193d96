use Rattle.std.proofs.Common.{◌-◌, ◌≤◌, length}
use Rattle.pb_decode_parts.specs.Values.Puts.{GoesOn}
use Rattle.pb_decode_parts.proofs.values.run.add_elements.Given as goal

abbrev pub invariant-loop-here : goal.invariant-loop-here
invariant-loop-here l = record {
  within : l.here ≤ length l.bytes;
  put : GoesOn l.pool l.number l.kind l.bytes l.left l.initial.run l.run l.here;
}

abbrev pub decreases-loop-here : goal.decreases-loop-here
decreases-loop-here l = length l.bytes - l.here
