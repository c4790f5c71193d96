use Rattle.std.proofs.Common.{◌≡◌, ◌≤◌, ◌-◌, ℕ, [], length, drop, string_bytes}
use Rattle.std.specs.Str.{IsCharBoundary}
use Rattle.pb_json_text.specs.Loops.Machine.{Stack, Target, text, run, in_string}
use Rattle.pb_json_text.proofs.strings.string.Given as goal

abbrev pub invariant-runs : goal.invariant-runs
invariant-runs l = record {
  within : l.at ≤ length l.input;
  passed : l.from ≤ l.at;
  boundary : IsCharBoundary l.input l.at;
  runs : (at : ℕ) (t : Target) (v : ℕ) (k : Stack) → run (in_string text [] at t v k) l.from (drop l.from l.input)
      ≡ run (in_string text (string_bytes l.characters) at t v k) l.at (drop l.at l.input);
}

abbrev pub decreases-runs : goal.decreases-runs
decreases-runs l = length l.input - l.at
