use Rattle.std.proofs.Common.{◌≡◌, ◌≤◌, length, ◌<◌, ◌+◌, ◌-◌, ◌^◌, drop}
use Rattle.pb_text_tokens.specs.Digits.{number_from}
use Rattle.pb_text_tokens.proofs.digits.number_at.Given as goal

abbrev pub invariant-loop-i : goal.invariant-loop-i
invariant-loop-i l = record {
  within : l.i ≤ length l.bytes;
  small : l.value < 16 ^ l.i;
  read : number_from l.base 0 l.limit l.bytes ≡ (l.i + (number_from l.base l.value (l.limit - l.i) (drop l.i l.bytes)).0, (number_from l.base l.value (l.limit - l.i) (drop l.i l.bytes)).1);
}
