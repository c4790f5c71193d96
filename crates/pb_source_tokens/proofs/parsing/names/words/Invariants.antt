use Rattle.std.proofs.Common.{◌-◌, length, codes}
use Rattle.pb_source_tokens.specs.Readers.Forms.{mark_reader}
use Rattle.pb_source_tokens.specs.Readers.Phrases.{is_dot, name_reader}
use Rattle.pb_source_tokens.specs.PhraseView.{words_view}
use Rattle.pb_source_tokens.proofs.SeparatedSteps.{HasRead}
use Rattle.pb_source_tokens.proofs.parsing.names.words.Given as goal

abbrev pub invariant-loop-words : goal.invariant-loop-words
invariant-loop-words l = HasRead is_dot (λ _. name_reader) (mark_reader (codes ".")) l.symbols l.at (words_view l.words.items) l.here

abbrev pub decreases-loop-words : goal.decreases-loop-words
decreases-loop-words l = length l.symbols - l.here
