use Rattle.std.proofs.Common.{◌≡◌, ◌≤◌, ◌-◌, ◌++◌, drop, length}
use Rattle.pb_text_tokens.specs.Strings.{meant_from}
use Rattle.pb_text_tokens.proofs.strings.push_units.Given as goal

abbrev pub invariant-loop-at : goal.invariant-loop-at
invariant-loop-at l = record {
  within : l.at ≤ length l.bytes;
  read : l.fn.into.items ++ meant_from l.quote 0 l.bytes ≡ l.into.items ++ meant_from l.quote 0 (drop l.at l.bytes);
}

abbrev pub decreases-loop-at : goal.decreases-loop-at
decreases-loop-at l = length l.bytes - l.at
