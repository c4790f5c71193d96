use Rattle.std.proofs.Common.{◌≡◌, ◌+◌, drop}
use Rattle.pb_text_tokens.specs.Characters.{continues_word, run_len}
use Rattle.pb_text_tokens.proofs.bytes.word_len.Given as goal

abbrev pub invariant-loop-i : goal.invariant-loop-i
invariant-loop-i l = run_len continues_word l.bytes ≡ l.i + run_len continues_word (drop l.i l.bytes)
