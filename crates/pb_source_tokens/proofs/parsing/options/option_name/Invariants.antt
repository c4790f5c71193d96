use Rattle.std.proofs.Common.{◌-◌, length, codes}
use Rattle.pb_source_tokens.specs.Readers.Forms.{mark_reader}
use Rattle.pb_source_tokens.specs.Readers.Phrases.{is_dot, part_reader}
use Rattle.pb_source_tokens.specs.PhraseView.{words_view}
use Rattle.pb_source_tokens.proofs.SeparatedSteps.{HasRead}
use Rattle.pb_source_tokens.proofs.parsing.options.option_name.Given as goal

abbrev pub invariant-loop-alloc : goal.invariant-loop-alloc
invariant-loop-alloc l = HasRead is_dot (part_reader l.grammar) (mark_reader (codes ".")) l.symbols l.at (words_view l.parts.items) l.here

abbrev pub decreases-loop-alloc : goal.decreases-loop-alloc
decreases-loop-alloc l = length l.symbols - l.here
