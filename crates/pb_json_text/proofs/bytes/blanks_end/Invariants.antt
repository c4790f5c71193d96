use Rattle.std.proofs.Common.{◌≡◌, ◌≤◌, ◌-◌, length, drop}
use Rattle.pb_json_text.specs.Loops.Machine.{Mode, run}
use Rattle.pb_json_text.specs.Loops.States.{Skips}
use Rattle.pb_json_text.proofs.bytes.blanks_end.Given as goal

abbrev pub invariant-loop-at : goal.invariant-loop-at
invariant-loop-at l = record {
  within : l.at ≤ length l.bytes;
  passed : l.from ≤ l.at;
  runs : (m : Mode) → Skips m → run m l.from (drop l.from l.bytes) ≡ run m l.at (drop l.at l.bytes);
}

abbrev pub decreases-loop-at : goal.decreases-loop-at
decreases-loop-at l = length l.bytes - l.at
