use Rattle.std.proofs.Common.{◌≡◌, ◌<◌, ◌+◌, ◌-◌, ◌^◌, drop}
use Rattle.pb_source_tokens.specs.Texts.{number_from}
use Rattle.pb_source_tokens.proofs.text.number_at.Given as goal

abbrev pub invariant-loop-i : goal.invariant-loop-i
invariant-loop-i l = record {
  small : l.value < 16 ^ l.i;
  read : number_from l.base 0 l.limit l.bytes ≡ (l.i + (number_from l.base l.value (l.limit - l.i) (drop l.i l.bytes)).0, (number_from l.base l.value (l.limit - l.i) (drop l.i l.bytes)).1);
}
