use Rattle.std.proofs.Common.{◌-◌, length, codes, map, string_bytes}
use Rattle.pb_source_tokens.specs.Readers.Forms.{mark_reader}
use Rattle.pb_source_tokens.specs.Readers.Phrases.{is_comma, utf8_reader}
use Rattle.pb_source_tokens.proofs.SeparatedSteps.{HasRead}
use Rattle.pb_source_tokens.proofs.parsing.ranges.texts.Given as goal

abbrev pub invariant-loop-alloc : goal.invariant-loop-alloc
invariant-loop-alloc l = HasRead is_comma (λ _. utf8_reader) (mark_reader (codes ",")) l.symbols l.at (map string_bytes l.texts.items) l.here

abbrev pub decreases-loop-alloc : goal.decreases-loop-alloc
decreases-loop-alloc l = length l.symbols - l.here
