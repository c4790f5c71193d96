use Rattle.std.proofs.Common.{◌≡◌, ◌≤◌, ℕ, length, drop}
use Rattle.pb_json_text.specs.Json.{Json}
use Rattle.pb_json_text.specs.Loops.Machine.{Stack, run, word_left}
use Rattle.pb_json_text.proofs.bytes.word_end.Given as goal

abbrev pub invariant-loop-letter : goal.invariant-loop-letter
invariant-loop-letter l = record {
  within : l.at ≤ length l.bytes;
  passed : l.from ≤ l.at;
  runs : (at : ℕ) (j : Json) (v : ℕ) (k : Stack) → run (word_left l.word at j v k) l.from (drop l.from l.bytes)
      ≡ run (word_left (drop l.letter-index l.word) at j v k) l.at (drop l.at l.bytes);
}
