use Rattle.std.proofs.Common.{◌≡◌, ◌+◌, drop}
use Rattle.pb_text_tokens.specs.Characters.{continues_comment, run_len}
use Rattle.pb_text_tokens.proofs.bytes.comment_len.Given as goal

abbrev pub invariant-loop-i : goal.invariant-loop-i
invariant-loop-i l = run_len continues_comment l.bytes ≡ l.i + run_len continues_comment (drop l.i l.bytes)
