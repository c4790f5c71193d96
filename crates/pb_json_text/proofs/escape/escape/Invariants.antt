use Rattle.std.proofs.Common.{◌≡◌, ◌≤◌, ◌-◌, ℕ, List, length, drop}
use Rattle.pb_json_text.specs.Loops.Machine.{Stack, Target, backslash, run, in_string}
use Rattle.pb_json_text.specs.Loops.Escapes.{part_of, IsPart}
use Rattle.pb_json_text.proofs.escape.escape.Given as goal

abbrev pub invariant-digits : goal.invariant-digits
invariant-digits l = record {
  within : l.at ≤ length l.bytes;
  passed : l.from ≤ l.at;
  part : IsPart l.part;
  runs : (s : List ℕ) (at : ℕ) (t : Target) (v : ℕ) (k : Stack) → run (in_string backslash s at t v k) l.from (drop l.from l.bytes)
      ≡ run (in_string (part_of l.part) s at t v k) l.at (drop l.at l.bytes);
}

abbrev pub decreases-digits : goal.decreases-digits
decreases-digits l = length l.bytes - l.at
