use Rattle.std.proofs.Common.{◌≡◌, ◌+◌, drop}
use Rattle.pb_text_tokens.specs.Characters.{is_blank, run_len}
use Rattle.pb_text_tokens.proofs.bytes.blanks_len.Given as goal

abbrev pub invariant-loop-i : goal.invariant-loop-i
invariant-loop-i l = run_len is_blank l.bytes ≡ l.i + run_len is_blank (drop l.i l.bytes)
