use Rattle.std.proofs.Common.{◌-◌, length, codes}
use Rattle.pb_source_tokens.specs.Readers.Forms.{mark_reader}
use Rattle.pb_source_tokens.specs.Readers.Phrases.{is_comma}
use Rattle.pb_source_tokens.specs.RangeView.{range_within}
use Rattle.pb_source_tokens.proofs.SeparatedSteps.{HasRead}
use Rattle.pb_source_tokens.proofs.parsing.ranges.ranges.Given as goal

abbrev pub invariant-loop-within : goal.invariant-loop-within
invariant-loop-within l = HasRead is_comma (λ _. range_within l.within) (mark_reader (codes ",")) l.symbols l.at l.ranges.items l.here

abbrev pub decreases-loop-within : goal.decreases-loop-within
decreases-loop-within l = length l.symbols - l.here
