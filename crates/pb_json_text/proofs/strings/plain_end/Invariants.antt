use Rattle.std.proofs.Common.{◌≡◌, ◌≤◌, ◌-◌, ◌++◌, ℕ, List, length, drop}
use Rattle.std.specs.Prelude.{slice_range}
use Rattle.pb_json_text.specs.Loops.Machine.{Stack, Target, text, run, in_string}
use Rattle.pb_json_text.proofs.strings.plain_end.Given as goal

abbrev pub invariant-loop-at : goal.invariant-loop-at
invariant-loop-at l = record {
  within : l.at ≤ length l.bytes;
  passed : l.from ≤ l.at;
  runs : (s : List ℕ) (at : ℕ) (t : Target) (v : ℕ) (k : Stack) → run (in_string text s at t v k) l.from (drop l.from l.bytes)
      ≡ run (in_string text (s ++ slice_range l.bytes l.from l.at) at t v k) l.at (drop l.at l.bytes);
}

abbrev pub decreases-loop-at : goal.decreases-loop-at
decreases-loop-at l = length l.bytes - l.at
