use Rattle.std.proofs.Common.{◌≡◌, ◌+◌, drop}
use Rattle.std.specs.Char.{is_ascii_digit}
use Rattle.pb_text_tokens.specs.Characters.{run_len}
use Rattle.pb_text_tokens.proofs.number.digits_len.Given as goal

abbrev pub invariant-loop-i : goal.invariant-loop-i
invariant-loop-i l = run_len is_ascii_digit l.bytes ≡ l.i + run_len is_ascii_digit (drop l.i l.bytes)
