use Rattle.std.proofs.Common.{◌≡◌, ◌++◌, drop, string_bytes}
use Rattle.pb_source_tokens.specs.Said.{joined}
use Rattle.pb_source_tokens.specs.PhraseView.{words_view}
use Rattle.pb_source_tokens.proofs.NameSteps.{behind_dots}
use Rattle.pb_source_tokens.proofs.parsing.names.push_joined.Given as goal

abbrev pub invariant-loop-i : goal.invariant-loop-i
invariant-loop-i l = string_bytes l.into ++ behind_dots (words_view (drop l.i l.words)) ≡ string_bytes l.fn.into ++ joined (words_view l.words)
