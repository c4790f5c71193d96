use Rattle.std.proofs.Common.{◌≡◌, take, true}
use Rattle.std.specs.List.{list_all}
use Rattle.pb_source_tokens.specs.Tokens.{continues_word}
use Rattle.pb_source_tokens.proofs.bytes.word_len.Given as goal

abbrev pub invariant-loop-i : goal.invariant-loop-i
invariant-loop-i l = list_all continues_word (take l.i l.bytes) ≡ true
