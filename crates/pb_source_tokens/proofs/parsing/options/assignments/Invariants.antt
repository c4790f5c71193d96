use Rattle.std.proofs.Common.{◌-◌, List, length, codes}
use Rattle.pb_source_tokens.specs.Readers.Forms.{mark_reader}
use Rattle.pb_source_tokens.specs.Readers.Phrases.{is_comma, assignment_reader}
use Rattle.pb_source_tokens.proofs.SeparatedSteps.{HasRead}
use Rattle.pb_source_tokens.proofs.parsing.options.assignments.Given as goal

abbrev pub invariant-loop-alloc : goal.invariant-loop-alloc
invariant-loop-alloc l = (front : List (Unit {0})) × HasRead is_comma (assignment_reader l.grammar) (mark_reader (codes ",")) l.symbols l.at front l.here

abbrev pub decreases-loop-alloc : goal.decreases-loop-alloc
decreases-loop-alloc l = length l.symbols - l.here
