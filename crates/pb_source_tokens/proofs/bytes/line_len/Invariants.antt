use Rattle.std.proofs.Common.{◌≡◌, take, true}
use Rattle.std.specs.List.{list_all}
use Rattle.pb_source_tokens.specs.Tokens.{goes_on_line}
use Rattle.pb_source_tokens.proofs.bytes.line_len.Given as goal

abbrev pub invariant-loop-i : goal.invariant-loop-i
invariant-loop-i l = list_all goes_on_line (take l.i l.bytes) ≡ true
