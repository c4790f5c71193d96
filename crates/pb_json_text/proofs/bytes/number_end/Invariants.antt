use Rattle.std.proofs.Common.{◌≡◌, ◌≤◌, ◌-◌, ℕ, [], length, drop, false}
use Rattle.std.specs.Prelude.{slice_range}
use Rattle.pb_json_text.specs.declared.number.NumberPart.TheVariants.{Start}
use Rattle.pb_json_text.specs.Loops.Machine.{Stack, run, in_number, is_final}
use Rattle.pb_json_text.proofs.bytes.number_end.Given as goal

abbrev pub invariant-bytes : goal.invariant-bytes
invariant-bytes l = record {
  within : l.at ≤ length l.bytes;
  passed : l.from ≤ l.at;
  begun : l.at ≡ l.from → is_final l.part ≡ false;
  runs : (at v : ℕ) (k : Stack) → run (in_number Start [] at v k) l.from (drop l.from l.bytes)
      ≡ run (in_number l.part (slice_range l.bytes l.from l.at) at v k) l.at (drop l.at l.bytes);
}

abbrev pub decreases-bytes : goal.decreases-bytes
decreases-bytes l = length l.bytes - l.at
