use Rattle.std.proofs.Common.{◌≡◌, ◌+◌, drop, false}
use Rattle.pb_text_tokens.specs.Numbers.{number_rest}
use Rattle.pb_text_tokens.proofs.number.number_rest.Given as goal

abbrev pub invariant-loop-i : goal.invariant-loop-i
invariant-loop-i l = number_rest false l.bytes ≡ l.i + number_rest l.after_e (drop l.i l.bytes)
