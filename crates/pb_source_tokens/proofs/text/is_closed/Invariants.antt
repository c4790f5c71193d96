use Rattle.std.proofs.Common.{◌≡◌, drop, false}
use Rattle.pb_source_tokens.specs.Tokens.{closes}
use Rattle.pb_source_tokens.proofs.text.is_closed.Given as goal

abbrev pub invariant-loop-byte : goal.invariant-loop-byte
invariant-loop-byte l = closes l.quote false l.bytes ≡ closes l.quote l.escaped (drop l.byte-index l.bytes)
