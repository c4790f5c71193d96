use Rattle.std.proofs.Common.{◌≤◌, ◌-◌, length}
use Rattle.pb_text_tokens.proofs.StringLemmas.{Reaches}
use Rattle.pb_text_tokens.proofs.strings.string_len.Given as goal

abbrev pub invariant-loop-at : goal.invariant-loop-at
invariant-loop-at l = record {
  within : l.at ≤ length l.bytes;
  read : Reaches l.quote l.bytes l.at;
}

abbrev pub decreases-loop-at : goal.decreases-loop-at
decreases-loop-at l = length l.bytes - l.at
