use Rattle.std.proofs.Common.{◌≡◌, take, true}
use Rattle.std.specs.List.{list_all}
use Rattle.pb_source_tokens.specs.Floats.{is_decimal}
use Rattle.pb_source_tokens.proofs.parsing.floats.digits_len.Given as goal

abbrev pub invariant-loop-i : goal.invariant-loop-i
invariant-loop-i l = list_all is_decimal (take l.i l.bytes) ≡ true
