use Rattle.std.proofs.Common.{◌≡◌, take, false}
use Rattle.pb_source_tokens.specs.Tokens.{has_close}
use Rattle.pb_source_tokens.proofs.bytes.close_at.Given as goal

abbrev pub invariant-loop-i : goal.invariant-loop-i
invariant-loop-i l = has_close (take l.i l.bytes) ≡ false
