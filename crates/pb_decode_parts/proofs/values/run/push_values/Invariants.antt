use Rattle.std.proofs.Common.{◌-◌, ◌≤◌, length}
use Rattle.pb_decode_parts.specs.Values.Puts.{ListGoesOn}
use Rattle.pb_decode_parts.proofs.values.run.push_values.Given as goal

abbrev pub invariant-loop-here : goal.invariant-loop-here
invariant-loop-here l = record {
  within : l.here ≤ length l.payload;
  put : ListGoesOn l.kind l.payload l.initial.values.items l.values.items l.here;
}

abbrev pub decreases-loop-here : goal.decreases-loop-here
decreases-loop-here l = length l.payload - l.here
